-- What program `rewrite` prints: a sheet written out again, with composed letters; or its refusal, and with a 10 the word and the two walks.
use Rattle.std.specs.Prelude.{ℕ, ◌≡◌, List, ◌++◌}
use Rattle.gate.specs.declared.Refusal.{Refusal}
use Rattle.automaton.specs.Automaton.{graph_of}
use Rattle.lent.specs.Lent.{WitnessTables, Meets}
use Rattle.format.specs.Format.{Sheet, FileIs, Faulty}
use Rattle.format.specs.Numbers.{numbers}
use Rattle.reading.specs.Read.{Accepted}
use Rattle.writer.specs.Writing.{writing}
use Rattle.report.specs.Report.{refusal_line}
use Rattle.witness_text.specs.WitnessText.{witness_text}

-- the longest sheet that is written: an SHT-2 of 8 names of 24 bytes, 16 states and 2,048 transitions
abbrev pub longest_rewrite : ℕ
longest_rewrite = 29056

-- WHAT `rewrite` PRINTS for the input s
pub data RewriteOutput (s text : List ℕ) : Type 0 where
  -- 2 to 9, 15 and 16
  refused : (number line : ℕ) → Faulty s number line → text ≡ refusal_line number line → RewriteOutput s text
  -- 10, with its witness in some tables
  meeting : (σ : Sheet) → FileIs s σ → (before after : WitnessTables) (r : Refusal) → Meets (graph_of (numbers σ)) before after r
      → text ≡ refusal_line r.number r.line ++ witness_text after r.length → RewriteOutput s text
  -- "The writer writes composed letters"
  written : (σ : Sheet) → Accepted s σ → text ≡ writing σ → RewriteOutput s text
