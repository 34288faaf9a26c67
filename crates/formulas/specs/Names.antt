-- Names of atoms and agents.
use Rattle.std.specs.Prelude.{ℕ, Bool, true, false, not, ◌&&◌, ◌||◌, ◌==◌, List, [], ◌∷◌, length, nat_le, codes}
use Rattle.std.specs.Char.{is_ascii_alphanumeric, is_ascii_digit}
use Rattle.std.specs.List.{list_all, list_any}
use Rattle.std.specs.Str.{bytes_eq}
use Rattle.formulas.specs.Limits.{name_limit}

-- a byte of a word: a letter, a digit or `_`
abbrev pub is_word_byte : ℕ → Bool
is_word_byte byte = is_ascii_alphanumeric byte || byte == 95

-- a word that does not begin with a digit
abbrev pub is_plain_name : List ℕ → Bool
is_plain_name [] = false
is_plain_name (first ∷ rest) = not (is_ascii_digit first) && list_all is_word_byte (first ∷ rest)

-- such a word of at most so many bytes
abbrev pub is_legal : List ℕ → Bool
is_legal name = is_plain_name name && nat_le (length name) name_limit

-- the words of the two constants
abbrev pub is_reserved : List ℕ → Bool
is_reserved name = bytes_eq name (codes "true") || bytes_eq name (codes "false")

-- what an atom or an agent may be called
abbrev pub is_name : List ℕ → Bool
is_name name = is_legal name && not (is_reserved name)

-- no two of the names are the same
abbrev pub are_distinct : List (List ℕ) → Bool
are_distinct [] = true
are_distinct (name ∷ names) = not (list_any (bytes_eq name) names) && are_distinct names

-- the atoms in order of number, as contracts see them: today each is its name
abbrev pub AtomList : Type 0
AtomList = List (List ℕ)

-- the names of the atoms
abbrev pub names_of : AtomList → List (List ℕ)
names_of atoms = atoms

-- distinct names, in order, as those of the atoms and those of the agents
abbrev pub are_names : List (List ℕ) → Bool
are_names names = list_all is_name names && are_distinct names
