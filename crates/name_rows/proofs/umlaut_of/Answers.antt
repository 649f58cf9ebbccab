-- `name_rows::umlaut_of` meets its contract: of each letter that is asked, `umlaut_of` is known. Assumes nothing.
use borrow.Author.Tests.{ne_eqb}
use Rattle.names.specs.Name.{umlaut_of}
use Rattle.name_rows.proofs.umlaut_of.Goals as goal

pub returns-then-v-eq97 : goal.returns-then-v-eq97
unfolding umlaut_of
returns-then-v-eq97 c = rw c.if-v-eq97.true

pub returns-then-v-eq111 : goal.returns-then-v-eq111
unfolding umlaut_of
returns-then-v-eq111 c = rw c.if-v-eq111.true

pub returns-then-v-eq117 : goal.returns-then-v-eq117
unfolding umlaut_of
returns-then-v-eq117 c = rw c.if-v-eq117.true

pub returns-then-v-eq65 : goal.returns-then-v-eq65
unfolding umlaut_of
returns-then-v-eq65 c = rw c.if-v-eq65.true

pub returns-then-v-eq79 : goal.returns-then-v-eq79
unfolding umlaut_of
returns-then-v-eq79 c = rw c.if-v-eq79.true

pub returns : goal.returns
unfolding umlaut_of
returns c =
    simp (
      ne_eqb _ _ c.if-v-eq97.false,
      ne_eqb _ _ c.if-v-eq111.false,
      ne_eqb _ _ c.if-v-eq117.false,
      ne_eqb _ _ c.if-v-eq65.false,
      ne_eqb _ _ c.if-v-eq79.false,
    )
