-- Reading a text byte by byte, and its lines.
use Rattle.std.proofs.Common.{◌≡◌, ◌≢◌, ℕ, ◌+◌, ◌-◌, ◌<◌, ◌≤◌, List, [], ◌∷◌, ◌++◌, length, take, refl, ap, sym, ◌∙◌, append_assoc, arith, inl, inr}
use Rattle.std.specs.Prelude.{Option, Some, None, Ok, Err}
use Rattle.std.proofs.lemmas.Grind.{common_steps}
use Rattle.std.specs.Io.KnownBytes.{Keeps, Consumes, IsAtEnd}
use Rattle.genie_host.specs.Host.{HostView, OnlyHandle}
use Rattle.genie_script.specs.Texts.{lines_of}
use Rattle.genie_replay.specs.Lines.{TakesBytes, TakesLine}
use Rattle.genie_replay.specs.declared.script.LineStep.TheVariants.{Line, End, TooLong}
use Rattle.genie_host.specs.OnlyHandle.{only_trans}

-- no line end
abbrev pub IsPlain : List ℕ → Type 0
IsPlain [] = Unit {0}
IsPlain (b ∷ bs) = (b ≢ 10) × IsPlain bs

pub plain_more : (xs : List ℕ) (b : ℕ) → IsPlain xs → b ≢ 10 → IsPlain (xs ++ b ∷ [])
plain_more [] b p ne = (ne, tt)
plain_more (x ∷ xs) b p ne = (p.0, plain_more xs b p.1 ne)

pub lines_of_plain_end : (line rest : List ℕ) → IsPlain line → lines_of (line ++ 10 ∷ rest) ≡ line ∷ lines_of rest
lines_of_plain_end [] rest p = refl
lines_of_plain_end (x ∷ xs) rest p =
    let ih : lines_of (xs ++ 10 ∷ rest) ≡ xs ∷ lines_of rest = lines_of_plain_end xs rest p.1 in
    let ne : x ≢ 10 = p.0 in
    grind (arith, ih, ne)

pub lines_of_plain : (x : ℕ) (xs : List ℕ) → IsPlain (x ∷ xs) → lines_of (x ∷ xs) ≡ (x ∷ xs) ∷ []
lines_of_plain x [] p = let ne : x ≢ 10 = p.0 in grind (arith, ne)
lines_of_plain x (y ∷ ys) p =
    let ih : lines_of (y ∷ ys) ≡ (y ∷ ys) ∷ [] = lines_of_plain y ys p.1 in
    let ne : x ≢ 10 = p.0 in
    grind (arith, ih, ne)

pub record LongFirst (front : List ℕ) (text : List ℕ) : Type 0 where
  pub tail : List ℕ
  pub more : List (List ℕ)
  pub is : lines_of text ≡ (front ++ tail) ∷ more

pub first_begins : (b : ℕ) (rest : List ℕ) → b ≢ 10 → LongFirst (b ∷ []) (b ∷ rest)
first_begins b rest ne = elim (lines_of rest) as (λ ls. lines_of rest ≡ ls → LongFirst (b ∷ []) (b ∷ rest)) [
  | [] ↦ λ e. record { tail = []; more = []; is = grind (arith, e, ne) }
  | l ∷ ls ↦ λ e. record { tail = l; more = ls; is = grind (arith, e, ne) }
] refl

pub long_first : (line : List ℕ) (b : ℕ) (rest : List ℕ) → IsPlain line → b ≢ 10 → LongFirst (line ++ b ∷ []) (line ++ b ∷ rest)
long_first [] b rest p ne = first_begins b rest ne
long_first (x ∷ xs) b rest p ne =
    let ih = long_first xs b rest p.1 ne in
    let is = ih.is in
    let nx : x ≢ 10 = p.0 in
    record { tail = ih.tail; more = ih.more; is = grind (arith, is, nx) }

pub consumes_more : (u v w : Option (List ℕ)) (xs ys : List ℕ) → Consumes u v xs → Consumes v w ys → Consumes u w (xs ++ ys)
consumes_more None v w xs ys a b = tt
consumes_more (Some u) None w xs ys a b = absurd a
consumes_more (Some u) (Some v) None xs ys a b = absurd b
consumes_more (Some u) (Some v) (Some w) xs ys a b = a ∙ ap (λ (l : List ℕ). xs ++ l) b ∙ sym (append_assoc xs ys w)

-- the text so far is this line, and a byte
pub line_done : (E : Type 0) (u v w : Option (List ℕ)) (line : List ℕ) (b : ℕ) → Consumes u v line → IsPlain line → length line ≤ 8300 → Consumes v w (b ∷ []) → b ≡ 10 → TakesLine {E = E} u w (Ok Line) line × TakesBytes {E = E} u w (Ok Line) line
line_done E None v w line b a p short c e = (tt, tt)
line_done E (Some u) None w line b a p short c e = absurd a
line_done E (Some u) (Some v) None line b a p short c e = absurd c
line_done E (Some u) (Some v) (Some w) line b a p short c e =
    let whole : u ≡ line ++ 10 ∷ w = a ∙ ap (λ (l : List ℕ). line ++ l) c ∙ ap (λ (n : ℕ). line ++ n ∷ w) e in
    ((ap lines_of whole ∙ lines_of_plain_end line w p, short), inl whole)

pub line_end : (E : Type 0) (u v w : Option (List ℕ)) (line : List ℕ) → Consumes u v line → IsAtEnd v × Keeps v w → length line ≡ 0 → TakesLine {E = E} u w (Ok End) line × TakesBytes {E = E} u w (Ok End) line
line_end E None v w line a e z = (tt, tt)
line_end E (Some u) None w line a e z = absurd a
line_end E (Some u) (Some v) None line a e z = absurd e.1
line_end E (Some u) (Some v) (Some w) [] a e z = (ap lines_of (a ∙ e.0), (a ∙ e.0, e.1 ∙ e.0))
line_end E (Some u) (Some v) (Some w) (x ∷ xs) a e z = absurd (omega arith)

pub line_last : (E : Type 0) (u v w : Option (List ℕ)) (line : List ℕ) → Consumes u v line → IsPlain line → length line ≤ 8300 → IsAtEnd v × Keeps v w → length line ≢ 0 → TakesLine {E = E} u w (Ok Line) line × TakesBytes {E = E} u w (Ok Line) line
line_last E None v w line a p short e z = (tt, tt)
line_last E (Some u) None w line a p short e z = absurd a
line_last E (Some u) (Some v) None line a p short e z = absurd e.1
line_last E (Some u) (Some v) (Some w) [] a p short e z = absurd (z refl)
line_last E (Some u) (Some v) (Some w) (x ∷ xs) a p short e z =
    let none : v ≡ [] = e.0 in
    let rest : w ≡ [] = e.1 ∙ e.0 in
    let whole : u ≡ x ∷ xs = grind (arith, common_steps) in
    ((ap lines_of whole ∙ lines_of_plain x xs p ∙ ap (λ (t : List ℕ). (x ∷ xs) ∷ lines_of t) (sym rest), short), inr (whole, rest))

pub line_long : (E : Type 0) (u v w : Option (List ℕ)) (line : List ℕ) (b : ℕ) → Consumes u v line → IsPlain line → length line ≡ 8300 → Consumes v w (b ∷ []) → b ≢ 10 → TakesLine {E = E} u w (Ok TooLong) line × TakesBytes {E = E} u w (Ok TooLong) line
line_long E None v w line b a p full c ne = (tt, tt)
line_long E (Some u) None w line b a p full c ne = absurd a
line_long E (Some u) (Some v) None line b a p full c ne = absurd c
line_long E (Some u) (Some v) (Some w) line b a p full c ne =
    let whole : u ≡ line ++ b ∷ w = a ∙ ap (λ (l : List ℕ). line ++ l) c in
    let found = long_first line b w p ne in
    let tail = found.tail in
    let size : 8300 < length ((line ++ b ∷ []) ++ tail) = grind (arith, common_steps) in
    (((line ++ b ∷ []) ++ tail, found.more, ap lines_of whole ∙ found.is, size), (b, whole, full))

-- the next byte couldn't be read
pub line_cut : (E : Type 0) (e : E) (u v w : Option (List ℕ)) (line : List ℕ) → Consumes u v line → Keeps v w → TakesBytes {E = E} u w (Err e) line
line_cut E e None v w line a k = tt
line_cut E e (Some u) None w line a k = absurd a
line_cut E e (Some u) (Some v) None line a k = absurd k
line_cut E e (Some u) (Some v) (Some w) line a k = a ∙ ap (λ (l : List ℕ). line ++ l) (sym k)

-- a line so far
pub record SoFar (k : ℕ) (old new : HostView) (u v : Option (List ℕ)) (before ahead : ℕ) (line : List ℕ) : Type 0 where
  pub only : OnlyHandle k old new
  pub count : (new.handle k).faults ≡ (old.handle k).faults
  pub taken : Consumes u v line
  pub plain : IsPlain line
  pub short : length line ≤ 8300
  pub within : before ≤ 8301 → length line + ahead ≤ 8301

pub line_to : (k : ℕ) (a b c : HostView) (u v w : Option (List ℕ)) (before ahead left : ℕ) (line after : List ℕ) (byte : ℕ)
    → SoFar k a b u v before ahead line → OnlyHandle k b c → (c.handle k).faults ≡ (b.handle k).faults → Consumes v w (byte ∷ []) → byte ≢ 10 → length line ≢ 8300 → after ≡ line ++ byte ∷ [] → (ahead ≤ 8301 - length line → left + 1 ≤ 8301 - length line)
    → SoFar k a c u w before left after
line_to k a b c u v w before ahead left line after byte so only count take ne room is stays = rw is (record {
  only = only_trans k a b c so.only only;
  count = count ∙ so.count;
  taken = consumes_more u v w line (byte ∷ []) so.taken take;
  plain = plain_more line byte so.plain ne;
  short = let was : length line ≤ 8300 = so.short in grind (arith, common_steps);
  within = λ fits.
      let was : length line + ahead ≤ 8301 = so.within fits in
      let now : left + 1 ≤ 8301 - length line = stays (omega arith) in
      grind (arith, common_steps);
})
