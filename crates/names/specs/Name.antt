-- Document 01, "The files": the name of a letter.
use Rattle.std.specs.Prelude.{ℕ, ◌≤◌, ◌≡◌, Bool, true, false, ◌&&◌, List, [], ◌∷◌, ◌++◌, eqb, length}
use Rattle.lists.specs.Choice.{choose}

-- is b one of the bytes of a list
unfoldable pub one_of : List ℕ → ℕ → Bool
one_of [] b = false
one_of (x ∷ xs) b = choose (eqb b x) true (one_of xs b)

-- "C3 followed by A4, B6, BC, 84, 96, 9C or 9F (ä ö ü Ä Ö Ü ß)": the second byte
unfoldable pub is_umlaut : ℕ → Bool
is_umlaut b = one_of (0xA4 ∷ 0xB6 ∷ 0xBC ∷ 0x84 ∷ 0x96 ∷ 0x9C ∷ 0x9F ∷ []) b

-- "a, o, u, A, O or U"
unfoldable pub is_vowel : ℕ → Bool
is_vowel b = one_of (0x61 ∷ 0x6F ∷ 0x75 ∷ 0x41 ∷ 0x4F ∷ 0x55 ∷ []) b

-- three bytes are a vowel with the combining diaeresis, CC 88
abbrev pub is_decomposed : ℕ → ℕ → ℕ → Bool
is_decomposed a b c = is_vowel a && (eqb b 0xCC && eqb c 0x88)

-- the second byte of the composed letter of a vowel
unfoldable pub umlaut_of : ℕ → ℕ
umlaut_of v =
    choose (eqb v 0x61) 0xA4
    (choose (eqb v 0x6F) 0xB6
    (choose (eqb v 0x75) 0xBC
    (choose (eqb v 0x41) 0x84
    (choose (eqb v 0x4F) 0x96 0x9C))))

-- a name part: a byte of its own; a composed letter, C3 and c; a vowel with the combining diaeresis
pub data Part : Type 0 where
  plain : ℕ → Part
  composed : ℕ → Part
  decomposed : ℕ → Part

-- "hexadecimal 21 to 7E; C3 followed by ..; CC 88 (the combining diaeresis) only straight after a, o, u, A, O or U"
abbrev pub RightPart : Part → Type 0
RightPart (plain b) = (0x21 ≤ b) × (b ≤ 0x7E)
RightPart (composed c) = is_umlaut c ≡ true
RightPart (decomposed v) = is_vowel v ≡ true

abbrev pub RightParts : List Part → Type 0
RightParts [] = Unit
RightParts (p ∷ ps) = RightPart p × RightParts ps

-- the bytes of a part, and of a name
abbrev pub part_bytes : Part → List ℕ
part_bytes (plain b) = b ∷ []
part_bytes (composed c) = 0xC3 ∷ c ∷ []
part_bytes (decomposed v) = v ∷ 0xCC ∷ 0x88 ∷ []

unfoldable pub name_bytes : List Part → List ℕ
name_bytes [] = []
name_bytes (p ∷ ps) = part_bytes p ++ name_bytes ps

-- "A name has 1 to 24 bytes": as it is spelled in the file
pub record IsName (x : List ℕ) : Type 0 where
  pub parts : List Part
  pub right : RightParts parts
  pub is : x ≡ name_bytes parts
  pub some : 1 ≤ length x
  pub most : length x ≤ 24

-- "A vowel with CC 88 is the same name part as the composed letter."
abbrev pub composed_part : Part → Part
composed_part (plain b) = plain b
composed_part (composed c) = composed c
composed_part (decomposed v) = composed (umlaut_of v)

-- composing on bytes: each vowel with CC 88 straight after it becomes the composed letter
unfoldable pub compose : List ℕ → List ℕ
compose [] = []
compose (a ∷ []) = a ∷ []
compose (a ∷ b ∷ []) = a ∷ b ∷ []
compose (a ∷ b ∷ c ∷ x) =
    choose (is_decomposed a b c) (0xC3 ∷ umlaut_of a ∷ compose x) (a ∷ compose (b ∷ c ∷ x))
