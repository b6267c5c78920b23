-- Whether two texts have the same bytes.
use Rattle.std.proofs.Common.{◌≡◌, ℕ, true, List}
use Rattle.std.specs.Cmp.Lexicographic.{bytes_decides, nat_list_eq_equiv}
use Rattle.lake_values.specs.Texts.{same_text}

-- the test holds of equal texts alone, whichever stands first

pub same_text_is : (a b : List ℕ) → same_text a b ≡ true → a ≡ b
same_text_is a b same = (bytes_decides a b).0 same

pub same_text_self : (a : List ℕ) → same_text a a ≡ true
same_text_self = nat_list_eq_equiv.refl

pub same_text_sym : (a b : List ℕ) → same_text a b ≡ same_text b a
same_text_sym = nat_list_eq_equiv.symm
