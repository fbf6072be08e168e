-- What is read from a decimal.
use Rattle.std.proofs.Common.{◌≡◌, ℕ, ◌+◌, ◌-◌, ◌*◌, ◌^◌, ◌<◌, List, [], ◌∷◌, decimal, Ok, Err, true, rules}
use Rattle.std.specs.Prelude.{Result, false}
use Rattle.std.specs.Str.{all_ascii_digits, bytes_eq}
use Rattle.std.specs.Str.Parse.{ParsesUnsigned}
use Rattle.std.proofs.lemmas.Str.Parse.{IsNumeralModel, numerals_by_fold}
use Rattle.std.proofs.lemmas.Slice.Eq.{bytes_eq-Decides}
use Rattle.std.proofs.lemmas.Fmt.{digits_decimal, parse-decimal}

abbrev read_as : (E : Type 0) → ℕ → Result ℕ E
read_as E n = Ok n

abbrev refused : (E : Type 0) → E → Result ℕ E
refused E e = Err e

same_ok : (E : Type 0) (k n : ℕ) → read_as E k ≡ read_as E n → k ≡ n
same_ok E k n e = cc

never_both : (E : Type 0) (e : E) (n : ℕ) → refused E e ≡ read_as E n → ⊥
never_both E e n is = cc

-- the number of a decimal is read
pub is_read : (E : Type 0) (word : List ℕ) (n k : ℕ) → n < 2 ^ 64 → word ≡ decimal n → ParsesUnsigned 64 10 word (read_as E k) → k ≡ n
is_read E word n k lt is read = same_ok E k n (parse-decimal 64 n word (read_as E k) lt lt is read)

pub unread : (E : Type 0) (word : List ℕ) (n : ℕ) (e : E) → n < 2 ^ 64 → word ≡ decimal n → ParsesUnsigned 64 10 word (refused E e) → ⊥
unread E word n e lt is read = never_both E e n (parse-decimal 64 n word (refused E e) lt lt is read)

pub differ : (a b : List ℕ) → bytes_eq a b ≡ false → a ≡ b → ⊥
differ a b apart is = search (rules, bytes_eq-Decides)
