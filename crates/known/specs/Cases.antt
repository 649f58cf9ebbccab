-- Document 01, "Known cases", those with *, and cases of document 02's requests: one table.
use Rattle.std.specs.Prelude.{ℕ, List, [], ◌∷◌, ◌++◌}
use Prim.Native.String.{String}
use Prim.Native.String as T
use Prim.Native.Char.{code}
use Rattle.passes.specs.declared.Answer.{Answer}
use Rattle.passes.specs.declared.Answer.TheVariants.{Yes, No}
use Rattle.passes.specs.declared.Verdict.{Verdict}
use Rattle.known.specs.Case.{Expected, judged, refused, meeting, Case}

-- the bytes of a text of ASCII
abbrev pub bytes : String → List ℕ
bytes T.[] = []
bytes (T.◌∷◌ c t) = code c ∷ bytes t

abbrev case : List ℕ → String → ℕ → Expected → Case
case sheet plan room expected = record { sheet = sheet; plan = bytes plan; room = room; expected = expected }

abbrev verdict : Answer → ℕ → ℕ → Verdict
verdict answer least passes = record { answer = answer; least = least; passes = passes }

-- Sheet B, "from some job on only a"
abbrev sheet_b : List ℕ
sheet_b = bytes "SHEET  2  2\nN  0 a\nN  1 b\nS  0  1  0\nS  1  1  1\nT  0  0  0\nT  0  1  0\nT  0  1  1\nT  1  0  1\nEND\n"

-- Sheet B with a withdrawn letter more: `x`, an old name of `a`, by way of `y`
abbrev sheet_w : List ℕ
sheet_w = bytes "SHEET  2  4\nN  0 x\nN  1 y\nN  2 b\nN  3 a\nW  0  1\nW  1  3\nS  0  1  0\nS  1  1  1\nT  0  2  0\nT  0  2  1\nT  0  3  0\nT  1  3  1\nEND\n"

-- Sheet B rewritten in the second edition
abbrev sheet_m : List ℕ
sheet_m = bytes "SHT-2  2  2\nN  0 a\nN  1 b\nS  0  1\nS  1  1\nT  0  0  0  0\nT  0  1  0  0\nT  0  1  1  1\nT  1  0  1  1\nEND\n"

-- examples/13-test-job-counts.sheet, again and again a test coil: one state with two loops, of which one is marked
abbrev sheet_t : List ℕ
sheet_t = bytes "SHT-2  1  2\nN  0 coil\nN  1 test\nS  0  1\nT  0  0  0  0\nT  0  1  0  1\nEND\n"

-- "Stück", with the composed letter and with the combining diaeresis
abbrev composed : List ℕ
composed = bytes "St" ++ (195 ∷ 188 ∷ bytes "ck")

abbrev decomposed : List ℕ
decomposed = bytes "Stu" ++ (204 ∷ 136 ∷ bytes "ck")

abbrev only_a : String
only_a = "PLAN  0  1\na\nEND\n"

abbrev pub cases : List Case
cases =
    -- "Sheet B, lead-in b, cycle a: `YES  4    2`.", "Sheet B in room 4 is built"
    case sheet_b "PLAN  1  1\nb\na\nEND\n" 4 (judged (verdict Yes 4 2) (5 ∷ 5 ∷ 4 ∷ 3 ∷ []))
    -- "Sheet B, no lead-in, cycle a b: ` NO  3    2`."
    ∷ case sheet_b "PLAN  0  2\na\nb\nEND\n" 4 (judged (verdict No 3 2) (5 ∷ 5 ∷ 4 ∷ 3 ∷ []))
    -- "in room 3: 11"
    ∷ case sheet_b only_a 3 (refused 11 0)
    -- "One letter, one state, initial, must-recur, own loop: two tuples, the second with colour 2, passed."
    ∷ case (bytes "SHEET  1  1\nN  0 a\nS  0  1  1\nT  0  0  0\nEND\n") only_a 2 (judged (verdict Yes 2 2) (3 ∷ 2 ∷ []))
    -- "Without must-recur: one tuple, not passed."
    ∷ case (bytes "SHEET  1  1\nN  0 a\nS  0  1  0\nT  0  0  0\nEND\n") only_a 1 (judged (verdict No 3 1) (3 ∷ []))
    -- "One letter, one state, not initial: two tuples, the second with colour 1."
    ∷ case (bytes "SHEET  1  1\nN  0 a\nS  0  0  0\nEND\n") only_a 2 (judged (verdict No 1 2) (3 ∷ 1 ∷ []))
    -- "State 0 initial; 0 to 0 on a and b, 0 to 1 on a, 1 to 1 on a: 10, word a a, walks 0 0 1 and 0 1 1."
    ∷ case (bytes "SHEET  2  2\nN  0 a\nN  1 b\nS  0  1  0\nS  1  0  0\nT  0  0  0\nT  0  0  1\nT  0  1  0\nT  1  0  1\nEND\n") only_a 1
    (meeting (0 ∷ 0 ∷ []) (0 ∷ 0 ∷ 1 ∷ []) (0 ∷ 1 ∷ 1 ∷ []))
    -- "States 0 and 1 initial, each to 2 on a": by R-4 "now accepted if 2 stops there, and refused if 2 has a loop", with 10, word a
    ∷ case (bytes "SHEET  3  1\nN  0 a\nS  0  1  0\nS  1  1  0\nS  2  0  0\nT  0  0  2\nT  1  0  2\nEND\n") only_a 3 (judged (verdict No 1 3) (7 ∷ 7 ∷ 1 ∷ []))
    ∷ case (bytes "SHEET  3  1\nN  0 a\nS  0  1  0\nS  1  1  0\nS  2  0  0\nT  0  0  2\nT  1  0  2\nT  2  0  2\nEND\n") only_a 3
    (meeting (0 ∷ []) (0 ∷ 2 ∷ []) (1 ∷ 2 ∷ []))
    -- "Names `Stück` composed and decomposed: 6."
    ∷ case (bytes "SHEET  1  2\nN  0 " ++ (composed ++ (bytes "\nN  1 " ++ (decomposed ++ bytes "\nS  0  1  0\nEND\n")))) only_a 1 (refused 6 3)
    -- "e with CC 88: 5."
    ∷ case (bytes "SHEET  1  1\nN  0 e" ++ (204 ∷ 136 ∷ bytes "\nS  0  1  0\nEND\n")) only_a 1 (refused 5 2)
    -- R-1, "the letter that finally stands for it": the first case by old names
    ∷ case sheet_w "PLAN  1  1\nb\nx\nEND\n" 5 (judged (verdict Yes 4 2) (5 ∷ 1 ∷ 5 ∷ 3 ∷ 4 ∷ []))
    -- "the second number always the larger"; "a transition on a withdrawn letter with 16"
    ∷ case (bytes "SHEET  1  2\nN  0 a\nN  1 b\nW  1  0\nS  0  1  0\nEND\n") only_a 1 (refused 15 4)
    ∷ case (bytes "SHEET  1  2\nN  0 a\nN  1 b\nW  0  1\nS  0  1  0\nT  0  0  0\nEND\n") only_a 1 (refused 16 6)
    -- R-9, "rewritten with a mark on every transition into a must-recur state": the first case again
    ∷ case sheet_m "PLAN  1  1\nb\na\nEND\n" 4 (judged (verdict Yes 4 2) (5 ∷ 5 ∷ 4 ∷ 3 ∷ []))
    -- "the job counts, not the state after it": both of the example's plans
    ∷ case sheet_t "PLAN  1  3\ntest\ncoil\ncoil\ntest\nEND\n" 2 (judged (verdict Yes 2 1) (3 ∷ 2 ∷ []))
    ∷ case sheet_t "PLAN  2  1\ntest\ncoil\ncoil\nEND\n" 2 (judged (verdict No 3 1) (3 ∷ 2 ∷ []))
    -- "no third number on its S lines"; the same transition with both marks
    ∷ case (bytes "SHT-2  1  1\nN  0 a\nS  0  1  0\nEND\n") only_a 1 (refused 7 3)
    ∷ case (bytes "SHT-2  1  1\nN  0 a\nS  0  1\nT  0  0  0  0\nT  0  0  0  1\nEND\n") only_a 1 (refused 8 5)
    ∷ []
