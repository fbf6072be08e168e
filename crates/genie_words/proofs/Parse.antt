-- What clap makes of the words.
use Rattle.std.proofs.Common.{◌≡◌, List, [], ◌∷◌, length, refl, ap, sym, ◌∙◌, true, false, codes, Option, Some, None, map, option_map, arith, ◌≤◌, ◌⊎◌, inl, inr, subst, rules, suc}
use Rattle.std.specs.Str.{bytes_eq}
use Rattle.std.proofs.lemmas.List.{length-map}
use Rattle.std.specs.List.{All}
use Rattle.std.proofs.lemmas.Slice.Eq.{bytes_eq-Decides}
use Rattle.clap.specs.Lexer.{strip_byte}
use Rattle.clap.specs.Words.{App, Row, Text, is_simple, is_simple_and_free, fault_of, subcommand_of, first_of, IsAmong}
use Rattle.clap.specs.declared.error.kind.ErrorKind.TheVariants as kind
use Rattle.clap.proofs.OnLiterals.{clap_on_literals}
use Rattle.genie_words.specs.Command.{genie}
use Rattle.genie_words.specs.Shapes.{IsPlain, has_shape, Shape, ReplayShape, CostShape, MakeShape, found_shape, shape_of}

pub genie_free : is_simple_and_free genie ≡ true
unfolding clap_on_literals
genie_free = refl

pub faults_none : fault_of genie [] ≡ kind.MissingSubcommand ∷ []
unfolding clap_on_literals
faults_none = refl

pub replay_alone : fault_of genie (codes "replay" ∷ []) ≡ kind.MissingRequiredArgument ∷ []
unfolding clap_on_literals
replay_alone = refl

pub replay_one : (w : Text) → strip_byte 45 w ≡ None → bytes_eq w (45 ∷ 45 ∷ []) ≡ false → fault_of genie (codes "replay" ∷ w ∷ []) ≡ []
unfolding clap_on_literals
replay_one w m d = simp (m, d)

pub replay_finds : (w : Text) → strip_byte 45 w ≡ None → bytes_eq w (45 ∷ 45 ∷ []) ≡ false → option_map (λ p. first_of (codes "file") p.1) (subcommand_of genie (codes "replay" ∷ w ∷ [])) ≡ Some (Some w)
unfolding clap_on_literals
replay_finds w m d = simp (m, d)

pub replay_name : (w : Text) → strip_byte 45 w ≡ None → bytes_eq w (45 ∷ 45 ∷ []) ≡ false → option_map (λ p. p.0) (subcommand_of genie (codes "replay" ∷ w ∷ [])) ≡ Some (codes "replay")
unfolding clap_on_literals
replay_name w m d = refl

pub replay_more : (w x : Text) → strip_byte 45 w ≡ None → bytes_eq w (45 ∷ 45 ∷ []) ≡ false → strip_byte 45 x ≡ None → bytes_eq x (45 ∷ 45 ∷ []) ≡ false
    → fault_of genie (codes "replay" ∷ w ∷ x ∷ []) ≡ [] → ⊥
unfolding clap_on_literals
replay_more w x m d n e h = let g = simp (m, d, n, e) at h in cc

pub unknown_first : (w : Text) (rest : List Text) → strip_byte 45 w ≡ None → bytes_eq w (45 ∷ 45 ∷ []) ≡ false
    → bytes_eq (codes "replay") w ≡ false → bytes_eq (codes "cost") w ≡ false → bytes_eq (codes "make") w ≡ false
    → fault_of genie (w ∷ rest) ≡ [] → ⊥
unfolding clap_on_literals
unknown_first w rest m d a b c h = let g = simp (m, d, a, b, c) at h in cc

pub make_one : (w : Text) → strip_byte 45 w ≡ None → bytes_eq w (45 ∷ 45 ∷ []) ≡ false → fault_of genie (codes "make" ∷ w ∷ []) ≡ [] → ⊥
unfolding clap_on_literals
make_one w m d h = let g = simp (m, d) at h in cc

pub make_two : (w x : Text) → strip_byte 45 w ≡ None → bytes_eq w (45 ∷ 45 ∷ []) ≡ false → strip_byte 45 x ≡ None → bytes_eq x (45 ∷ 45 ∷ []) ≡ false
    → fault_of genie (codes "make" ∷ w ∷ x ∷ []) ≡ []
unfolding clap_on_literals
make_two w x m d n e = simp (m, d, n, e)

pub make_finds : (w x : Text) → strip_byte 45 w ≡ None → bytes_eq w (45 ∷ 45 ∷ []) ≡ false → strip_byte 45 x ≡ None → bytes_eq x (45 ∷ 45 ∷ []) ≡ false
    → option_map (λ p. first_of (codes "rounds") p.1) (subcommand_of genie (codes "make" ∷ w ∷ x ∷ [])) ≡ Some (Some x)
unfolding clap_on_literals
make_finds w x m d n e = simp (m, d, n, e)

pub cost_alone : fault_of genie (codes "cost" ∷ []) ≡ kind.MissingRequiredArgument ∷ []
unfolding clap_on_literals
cost_alone = refl

pub make_alone : fault_of genie (codes "make" ∷ []) ≡ kind.MissingRequiredArgument ∷ []
unfolding clap_on_literals
make_alone = refl

pub cost_one : (w : Text) → strip_byte 45 w ≡ None → bytes_eq w (45 ∷ 45 ∷ []) ≡ false → fault_of genie (codes "cost" ∷ w ∷ []) ≡ []
unfolding clap_on_literals
cost_one w m d = simp (m, d)

pub cost_more : (w x : Text) → strip_byte 45 w ≡ None → bytes_eq w (45 ∷ 45 ∷ []) ≡ false → strip_byte 45 x ≡ None → bytes_eq x (45 ∷ 45 ∷ []) ≡ false
    → fault_of genie (codes "cost" ∷ w ∷ x ∷ []) ≡ [] → ⊥
unfolding clap_on_literals
cost_more w x m d n e h = let g = simp (m, d, n, e) at h in cc

-- words after `replay`
replay_rest : (rest : List Text) → All IsPlain rest → length rest ≤ 2 → fault_of genie (codes "replay" ∷ rest) ≡ [] → has_shape (codes "replay" ∷ rest) ≡ true
replay_rest [] p few h = let g : kind.MissingRequiredArgument ∷ [] ≡ [] = sym replay_alone ∙ h in cc
replay_rest (w ∷ []) p few h = refl
replay_rest (w ∷ x ∷ []) p few h = let q : IsPlain w = p 0 [] (omega arith) in let r : IsPlain x = p 1 [] (omega arith) in absurd (replay_more w x q.minus q.dashes r.minus r.dashes h)
replay_rest (w ∷ x ∷ y ∷ rest) p few h = absurd (omega arith)

cost_rest : (rest : List Text) → All IsPlain rest → length rest ≤ 2 → fault_of genie (codes "cost" ∷ rest) ≡ [] → has_shape (codes "cost" ∷ rest) ≡ true
cost_rest [] p few h = let g : kind.MissingRequiredArgument ∷ [] ≡ [] = sym cost_alone ∙ h in cc
cost_rest (w ∷ []) p few h = refl
cost_rest (w ∷ x ∷ []) p few h = let q : IsPlain w = p 0 [] (omega arith) in let r : IsPlain x = p 1 [] (omega arith) in absurd (cost_more w x q.minus q.dashes r.minus r.dashes h)
cost_rest (w ∷ x ∷ y ∷ rest) p few h = absurd (omega arith)

make_rest : (rest : List Text) → All IsPlain rest → length rest ≤ 2 → fault_of genie (codes "make" ∷ rest) ≡ [] → has_shape (codes "make" ∷ rest) ≡ true
make_rest [] p few h = let g : kind.MissingRequiredArgument ∷ [] ≡ [] = sym make_alone ∙ h in cc
make_rest (w ∷ []) p few h = let q : IsPlain w = p 0 [] (omega arith) in absurd (make_one w q.minus q.dashes h)
make_rest (w ∷ x ∷ []) p few h = refl
make_rest (w ∷ x ∷ y ∷ rest) p few h = absurd (omega arith)

-- the word is the name, or the test says no
pub named_so : (a n : Text) → (n ≡ a) ⊎ (bytes_eq a n ≡ false)
named_so a n = elim (bytes_eq a n) as (λ b. bytes_eq a n ≡ b → (n ≡ a) ⊎ (bytes_eq a n ≡ false)) [
  | true ↦ λ t. inl (search (rules, bytes_eq-Decides))
  | false ↦ λ f. inr f
] refl

pub form_of_first : (n : Text) (rest : List Text) → IsPlain n → All IsPlain rest → length rest ≤ 2 → fault_of genie (n ∷ rest) ≡ [] → has_shape (n ∷ rest) ≡ true
form_of_first n rest q p few = elim (named_so (codes "replay") n) [
  | inl e ↦ subst (λ (m : Text). fault_of genie (m ∷ rest) ≡ [] → has_shape (m ∷ rest) ≡ true) (sym e) (replay_rest rest p few)
  | inr f ↦ elim (named_so (codes "cost") n) [
    | inl e ↦ subst (λ (m : Text). fault_of genie (m ∷ rest) ≡ [] → has_shape (m ∷ rest) ≡ true) (sym e) (cost_rest rest p few)
    | inr g ↦ elim (named_so (codes "make") n) [
      | inl e ↦ subst (λ (m : Text). fault_of genie (m ∷ rest) ≡ [] → has_shape (m ∷ rest) ≡ true) (sym e) (make_rest rest p few)
      | inr k ↦ λ h. absurd (unknown_first n rest q.minus q.dashes f g k h)
    ]
  ]
]

-- clap takes no other words than the three forms
pub form_none : (words : List Text) → All IsPlain words → length words ≤ 3 → fault_of genie words ≡ [] → has_shape words ≡ true
form_none [] p few h = let g : kind.MissingSubcommand ∷ [] ≡ [] = sym faults_none ∙ h in cc
form_none (n ∷ rest) p few h = form_of_first n rest (p 0 [] (omega arith)) (λ k d less. p (suc k) d (omega arith)) (omega arith) h

two_form : (n w : Text) → IsPlain w → has_shape (n ∷ w ∷ []) ≡ true → fault_of genie (n ∷ w ∷ []) ≡ []
two_form n w q h = elim (named_so (codes "replay") n) [
  | inl e ↦ subst (λ (m : Text). fault_of genie (m ∷ w ∷ []) ≡ []) (sym e) (replay_one w q.minus q.dashes)
  | inr f ↦ elim (named_so (codes "cost") n) [
    | inl e ↦ subst (λ (m : Text). fault_of genie (m ∷ w ∷ []) ≡ []) (sym e) (cost_one w q.minus q.dashes)
    | inr g ↦ let k = simp (f, g) at h in absurd (cc)
  ]
]

three_form : (n w x : Text) → IsPlain w → IsPlain x → has_shape (n ∷ w ∷ x ∷ []) ≡ true → fault_of genie (n ∷ w ∷ x ∷ []) ≡ []
three_form n w x q r h = elim (named_so (codes "make") n) [
  | inl e ↦ subst (λ (m : Text). fault_of genie (m ∷ w ∷ x ∷ []) ≡ []) (sym e) (make_two w x q.minus q.dashes r.minus r.dashes)
  | inr f ↦ let k = simp f at h in absurd (cc)
]

-- and it takes these
pub form_some : (words : List Text) → All IsPlain words → has_shape words ≡ true → fault_of genie words ≡ []
form_some [] p h = let k : false ≡ true = h in cc
form_some (n ∷ []) p h = let k : false ≡ true = h in cc
form_some (n ∷ w ∷ []) p h = two_form n w (p 1 [] (omega arith)) h
form_some (n ∷ w ∷ x ∷ []) p h = three_form n w x (p 1 [] (omega arith)) (p 2 [] (omega arith)) h
form_some (n ∷ w ∷ x ∷ y ∷ rest) p h = let k : false ≡ true = h in cc

pub not_form : (words : List Text) (e : kind.the_data) → All IsPlain words → (e ≡ kind.OutOfMemory → ⊥) → (e ≡ kind.OutOfMemory) ⊎ IsAmong e (fault_of genie words) → has_shape words ≡ false
not_form words e p ne (inl oom) = absurd (ne oom)
not_form words e p ne (inr among) = elim (has_shape words) as (λ b. has_shape words ≡ b → b ≡ false) [
  | true ↦ λ t. let none : fault_of genie words ≡ [] = form_some words p t in absurd (subst (IsAmong e) none among)
  | false ↦ λ f. refl
] refl

pub fault_as : (a : App) (words : List Text) → a ≡ genie → fault_of a words ≡ fault_of genie words
fault_as a words e = ap (λ (x : App). fault_of x words) e

pub few_texts : {A B : Type 0} (f : A → B) (xs : List A) → length xs ≤ 3 → length (map f xs) ≤ 3
few_texts f xs h = rw length-map h

replay_wish : (w : Text) → strip_byte 45 w ≡ None → bytes_eq w (45 ∷ 45 ∷ []) ≡ false → found_shape (subcommand_of genie (codes "replay" ∷ w ∷ [])) ≡ Some (ReplayShape w)
unfolding clap_on_literals
replay_wish w m d = simp (m, d)

cost_wish : (w : Text) → strip_byte 45 w ≡ None → bytes_eq w (45 ∷ 45 ∷ []) ≡ false → found_shape (subcommand_of genie (codes "cost" ∷ w ∷ [])) ≡ Some (CostShape w)
unfolding clap_on_literals
cost_wish w m d = simp (m, d)

making_wish : (w x : Text) → strip_byte 45 w ≡ None → bytes_eq w (45 ∷ 45 ∷ []) ≡ false → strip_byte 45 x ≡ None → bytes_eq x (45 ∷ 45 ∷ []) ≡ false
    → found_shape (subcommand_of genie (codes "make" ∷ w ∷ x ∷ [])) ≡ Some (MakeShape w x)
unfolding clap_on_literals
making_wish w x m d n e = simp (m, d, n, e)

two_wish : (n w : Text) → IsPlain w → has_shape (n ∷ w ∷ []) ≡ true → found_shape (subcommand_of genie (n ∷ w ∷ [])) ≡ shape_of (n ∷ w ∷ [])
two_wish n w q h = elim (named_so (codes "replay") n) [
  | inl e ↦ subst (λ (m : Text). found_shape (subcommand_of genie (m ∷ w ∷ [])) ≡ shape_of (m ∷ w ∷ [])) (sym e) (replay_wish w q.minus q.dashes)
  | inr f ↦ elim (named_so (codes "cost") n) [
    | inl e ↦ subst (λ (m : Text). found_shape (subcommand_of genie (m ∷ w ∷ [])) ≡ shape_of (m ∷ w ∷ [])) (sym e) (cost_wish w q.minus q.dashes)
    | inr g ↦ let k = simp (f, g) at h in absurd (cc)
  ]
]

three_wish : (n w x : Text) → IsPlain w → IsPlain x → has_shape (n ∷ w ∷ x ∷ []) ≡ true → found_shape (subcommand_of genie (n ∷ w ∷ x ∷ [])) ≡ shape_of (n ∷ w ∷ x ∷ [])
three_wish n w x q r h = elim (named_so (codes "make") n) [
  | inl e ↦ subst (λ (m : Text). found_shape (subcommand_of genie (m ∷ w ∷ x ∷ [])) ≡ shape_of (m ∷ w ∷ x ∷ [])) (sym e) (making_wish w x q.minus q.dashes r.minus r.dashes)
  | inr f ↦ let k = simp f at h in absurd (cc)
]

-- clap finds what the words ask for
pub form_wish : (words : List Text) → All IsPlain words → has_shape words ≡ true → found_shape (subcommand_of genie words) ≡ shape_of words
form_wish [] p h = let k : false ≡ true = h in cc
form_wish (n ∷ []) p h = let k : false ≡ true = h in cc
form_wish (n ∷ w ∷ []) p h = two_wish n w (p 1 [] (omega arith)) h
form_wish (n ∷ w ∷ x ∷ []) p h = three_wish n w x (p 1 [] (omega arith)) (p 2 [] (omega arith)) h
form_wish (n ∷ w ∷ x ∷ y ∷ rest) p h = let k : false ≡ true = h in cc

pub simple_from : (a : App) → is_simple_and_free a ≡ true → is_simple a ≡ true
simple_from a h = elim (is_simple a) as (λ b. is_simple a ≡ b → b ≡ true) [
  | true ↦ λ t. refl
  | false ↦ λ f. let k = rw f at h in k
] refl

pub found_as : (a : App) (words : List Text) → a ≡ genie → subcommand_of a words ≡ subcommand_of genie words
found_as a words e = ap (λ (x : App). subcommand_of x words) e

is_wished : (words : List Text) → has_shape words ≡ true → shape_of words ≡ None → ⊥
is_wished [] h e = let k : false ≡ true = h in cc
is_wished (n ∷ []) h e = let k : false ≡ true = h in cc
is_wished (n ∷ w ∷ []) h e = elim (named_so (codes "replay") n) [
  | inl s ↦ subst (λ (m : Text). shape_of (m ∷ w ∷ []) ≡ None → ⊥) (sym s) (λ k. let g : Some (ReplayShape w) ≡ None = k in cc) e
  | inr f ↦ elim (named_so (codes "cost") n) [
    | inl s ↦ subst (λ (m : Text). shape_of (m ∷ w ∷ []) ≡ None → ⊥) (sym s) (λ k. let g : Some (CostShape w) ≡ None = k in cc) e
    | inr g ↦ let k = simp (f, g) at h in cc
  ]
]
is_wished (n ∷ w ∷ x ∷ []) h e = elim (named_so (codes "make") n) [
  | inl s ↦ subst (λ (m : Text). shape_of (m ∷ w ∷ x ∷ []) ≡ None → ⊥) (sym s) (λ k. let g : Some (MakeShape w x) ≡ None = k in cc) e
  | inr f ↦ let k = simp f at h in cc
]
is_wished (n ∷ w ∷ x ∷ y ∷ rest) h e = let k : false ≡ true = h in cc

pub always_wished : (words : List Text) (found : Option (Text × List Row)) → All IsPlain words → has_shape words ≡ true → found ≡ subcommand_of genie words → None ≡ found_shape found → ⊥
always_wished words found p h e n = is_wished words h (sym (form_wish words p h) ∙ ap found_shape (sym e) ∙ sym n)

pub wished_so : (words : List Text) (found : Option (Text × List Row)) (w : Shape) → All IsPlain words → has_shape words ≡ true → found ≡ subcommand_of genie words → Some w ≡ found_shape found → shape_of words ≡ Some w
wished_so words found w p h e s = sym (form_wish words p h) ∙ ap found_shape (sym e) ∙ sym s
