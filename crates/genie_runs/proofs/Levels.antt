-- A call is read alike with the letter `e` and without it.
use Rattle.std.proofs.Common.{◌≡◌, ℕ, Bool, true, false, cond, eqb, List, [], ◌∷◌, Option, Some, None, refl, sym, ap, ◌∙◌, subst}
use Rattle.std.specs.Prelude.{option_map, codes, bytes_eq}
use Rattle.std.proofs.lemmas.Bool.{eqb-true, eqb-false, ne_eqb}
use Rattle.genie_base.specs.Transfers.{class_of, is_system}
use Rattle.genie_base.specs.declared.event.Event.{Event}
use Rattle.genie_base.specs.declared.event.Event.TheVariants as event
use Rattle.genie_base.specs.declared.semantics.Semantics.{Semantics}
use Rattle.genie_base.specs.declared.semantics.Semantics.TheVariants.{Copy, EmulatedCopy, Share, EmulatedShare, Move, EmulatedMove, WeakMove, EmulatedWeakMove}
use Rattle.genie_laws.specs.Laws.{basic, basic_event}
use Rattle.genie_script.specs.Names.{semantics_of, semantics_at, port_at}
use Rattle.genie_script.specs.Numbers.{number_of, number_at, last_two}
use Rattle.genie_script.specs.Lines.{route_at, buffer_of, output_of, input_of}
use Rattle.genie_script.specs.Words.{◌>>=◌}
use Rattle.genie_runs.specs.Texts.{without_e}

-- ---- the word of a semantics

-- what a word without the letter says
abbrev basic_of : List ℕ → Option Semantics
basic_of text = cond (bytes_eq (codes "c") text) (Some Copy) (cond (bytes_eq (codes "s") text) (Some Share) (cond (bytes_eq (codes "m") text) (Some Move) (cond (bytes_eq (codes "w") text) (Some WeakMove) None)))

with_letter : (c s m w : Bool) → option_map basic (cond c (Some EmulatedCopy) (cond s (Some EmulatedShare) (cond m (Some EmulatedMove) (cond w (Some EmulatedWeakMove) None)))) ≡ cond c (Some Copy) (cond s (Some Share) (cond m (Some Move) (cond w (Some WeakMove) None)))
with_letter true s m w = refl
with_letter false true m w = refl
with_letter false false true w = refl
with_letter false false false true = refl
with_letter false false false false = refl

without_letter : (c s m w : Bool) → option_map basic (cond c (Some Copy) (cond s (Some Share) (cond m (Some Move) (cond w (Some WeakMove) None)))) ≡ cond c (Some Copy) (cond s (Some Share) (cond m (Some Move) (cond w (Some WeakMove) None)))
without_letter true s m w = refl
without_letter false true m w = refl
without_letter false false true w = refl
without_letter false false false true = refl
without_letter false false false false = refl

word_at_letter : (b : ℕ) (bs : List ℕ) (is : Bool) → eqb b 101 ≡ is → option_map basic (semantics_of (b ∷ bs)) ≡ basic_of (cond is bs (b ∷ bs))
unfolding semantics_of
word_at_letter b bs true e = subst (λ x. option_map basic (semantics_of (x ∷ bs)) ≡ basic_of bs) (sym (eqb-true b 101 e)) (with_letter (bytes_eq (codes "c") bs) (bytes_eq (codes "s") bs) (bytes_eq (codes "m") bs) (bytes_eq (codes "w") bs))
word_at_letter b bs false e =
    let other : eqb 101 b ≡ false = ne_eqb 101 b (λ f. eqb-false b 101 e (sym f)) in
    rw other (without_letter (bytes_eq (codes "c") (b ∷ bs)) (bytes_eq (codes "s") (b ∷ bs)) (bytes_eq (codes "m") (b ∷ bs)) (bytes_eq (codes "w") (b ∷ bs)))

word_says : (text : List ℕ) → option_map basic (semantics_of text) ≡ basic_of (without_e text)
unfolding semantics_of
word_says [] = refl
word_says (b ∷ bs) = word_at_letter b bs (eqb b 101) refl

words_say : (text other : List ℕ) → without_e other ≡ without_e text → option_map basic (semantics_of other) ≡ option_map basic (semantics_of text)
words_say text other same = word_says other ∙ ap basic_of same ∙ sym (word_says text)

-- ---- a call

bind_bind : {A B C : Type 0} (o : Option A) (f : A → Option B) (g : B → Option C) → ((o >>= f) >>= g) ≡ (o >>= λ x. f x >>= g)
bind_bind None f g = refl
bind_bind (Some x) f g = refl

map_bind : {A B C : Type 0} (o : Option A) (f : A → Option B) (g : B → C) → option_map g (o >>= f) ≡ (o >>= λ x. option_map g (f x))
map_bind None f g = refl
map_bind (Some x) f g = refl

bind_map : {A B C : Type 0} (o : Option A) (g : A → B) (f : B → Option C) → (option_map g o >>= f) ≡ (o >>= λ x. f (g x))
bind_map None g f = refl
bind_map (Some x) g f = refl

class_stays : (sem : Semantics) → class_of (basic sem) ≡ class_of sem
class_stays Copy = refl
class_stays EmulatedCopy = refl
class_stays Share = refl
class_stays EmulatedShare = refl
class_stays Move = refl
class_stays EmulatedMove = refl
class_stays WeakMove = refl
class_stays EmulatedWeakMove = refl

-- an output of this process by this semantics
abbrev basic_output : Option ℕ → Option Semantics → List (List ℕ) → Option Event
basic_output n s rest = n >>= λ pid. s >>= λ sem. number_at rest >>= λ dev. port_at dev.1 >>= λ port. last_two port.1 >>= λ range. Some (event.Output pid sem dev.0 port.0.0 port.0.1 range.0 range.1)

output_read : (pid sem : List ℕ) (rest : List (List ℕ)) → option_map basic_event (output_of (pid ∷ sem ∷ rest)) ≡ basic_output (number_of pid) (option_map basic (semantics_of sem)) rest
unfolding output_of route_at number_at semantics_at
output_read pid sem rest = simp (bind_bind, map_bind, bind_map)

-- an input
abbrev basic_input : Option ℕ → Option Semantics → List (List ℕ) → Option Event
basic_input n s rest = n >>= λ pid. s >>= λ sem. number_at rest >>= λ dev. port_at dev.1 >>= λ port. buffer_of (is_system (class_of sem)) port.1 >>= λ buffer. Some (event.Input pid sem dev.0 port.0.0 port.0.1 buffer.0 buffer.1)

input_read : (pid sem : List ℕ) (rest : List (List ℕ)) → option_map basic_event (input_of (pid ∷ sem ∷ rest)) ≡ basic_input (number_of pid) (option_map basic (semantics_of sem)) rest
unfolding input_of route_at number_at semantics_at
input_read pid sem rest = simp (bind_bind, map_bind, bind_map, class_stays)

pub outputs_alike : (pid sem other : List ℕ) (rest : List (List ℕ)) → without_e other ≡ without_e sem → option_map basic_event (output_of (pid ∷ other ∷ rest)) ≡ option_map basic_event (output_of (pid ∷ sem ∷ rest))
outputs_alike pid sem other rest same = output_read pid other rest ∙ ap (λ s. basic_output (number_of pid) s rest) (words_say sem other same) ∙ sym (output_read pid sem rest)

pub inputs_alike : (pid sem other : List ℕ) (rest : List (List ℕ)) → without_e other ≡ without_e sem → option_map basic_event (input_of (pid ∷ other ∷ rest)) ≡ option_map basic_event (input_of (pid ∷ sem ∷ rest))
inputs_alike pid sem other rest same = input_read pid other rest ∙ ap (λ s. basic_input (number_of pid) s rest) (words_say sem other same) ∙ sym (input_read pid sem rest)
