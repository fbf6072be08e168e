-- Runs of events of other levels, under other thresholds.
use Rattle.std.proofs.Common.{◌≡◌, ℕ, List, [], ◌∷◌, map, refl, sym, ap, ◌∙◌}
use Rattle.std.proofs.lemmas.List.Elements.{All-head, All-tail}
use Rattle.genie_base.specs.Events.{mark_of}
use Rattle.genie_base.specs.declared.event.Event.{Event}
use Rattle.genie_base.specs.declared.reply.Mark.TheVariants.{NoFault}
use Rattle.genie_base.specs.declared.reply.Reply.{Reply}
use Rattle.genie_laws.specs.Laws.{basic_event, outcome_with_thresholds, RunsAlike, with_thresholds}
use Rattle.genie_model.specs.State.{State}
use Rattle.genie_model.specs.Step.{Outcome, step, Follows}
use Rattle.genie_laws.proofs.Levels.Steps.{levels_step_alike}
use Rattle.genie_laws.proofs.Levels.Thresholds.{thresholds_step_alike}

first_same : {X : Type 0} (x y : X) (xs ys : List X) → x ∷ xs ≡ y ∷ ys → x ≡ y
first_same x y xs ys e = cc

rest_same : {X : Type 0} (x y : X) (xs ys : List X) → x ∷ xs ≡ y ∷ ys → xs ≡ ys
rest_same x y xs ys e = cc

abbrev Shows : Reply → Type 0
Shows r = mark_of r ≡ NoFault

-- what follows an outcome
abbrev Goes : List Event → Reply → List Reply → State → Outcome → Type 0
Goes es r rs last o = (o.1 ≡ r) × Follows o.0 es rs last

moved : (es : List Event) (r : Reply) (rs : List Reply) (last : State) (o p : Outcome) → o ≡ p → Goes es r rs last o → Goes es r rs last p
moved es r rs last o p same h = rw (sym same) h

-- one step
steps_alike : (out back : ℕ) (s : State) (e f : Event) → basic_event e ≡ basic_event f → step (with_thresholds out back s) f NoFault ≡ outcome_with_thresholds out back (step s e NoFault)
steps_alike out back s e f same =
    let t : State = with_thresholds out back s in
    sym (levels_step_alike t f NoFault) ∙ ap (λ (x : Event). step t x NoFault) (sym same) ∙ levels_step_alike t e NoFault ∙ thresholds_step_alike out back s e NoFault

pub runs_alike : RunsAlike
runs_alike out back s [] [] [] [] last end same a b quiet plain = (refl, sym b ∙ ap (with_thresholds out back) a)
runs_alike out back s (e ∷ es) (f ∷ fs) (r ∷ rs) (q ∷ qs) last end same a b quiet plain =
    let t : State = with_thresholds out back s in
    let here = moved es r rs last (step s e (mark_of r)) (step s e NoFault) (ap (step s e) (All-head Shows r rs quiet)) a in
    let there = moved fs q qs end (step t f (mark_of q)) (outcome_with_thresholds out back (step s e NoFault)) (ap (step t f) (All-head Shows q qs plain) ∙ steps_alike out back s e f (first_same (basic_event e) (basic_event f) (map basic_event es) (map basic_event fs) same)) b in
    let later = runs_alike out back (step s e NoFault).0 es fs rs qs last end (rest_same (basic_event e) (basic_event f) (map basic_event es) (map basic_event fs) same) here.1 there.1 (All-tail Shows r rs quiet) (All-tail Shows q qs plain) in
    (ap (λ (x : Reply). x ∷ qs) (sym there.0 ∙ here.0) ∙ ap (λ (l : List Reply). r ∷ l) later.0, later.1)
runs_alike out back s [] [] [] (q ∷ qs) last end same a b quiet plain = absurd b
runs_alike out back s [] [] (r ∷ rs) qs last end same a b quiet plain = absurd a
runs_alike out back s [] (f ∷ fs) rs qs last end same a b quiet plain = absurd (cc)
runs_alike out back s (e ∷ es) [] rs qs last end same a b quiet plain = absurd (cc)
runs_alike out back s (e ∷ es) (f ∷ fs) [] qs last end same a b quiet plain = absurd a
runs_alike out back s (e ∷ es) (f ∷ fs) (r ∷ rs) [] last end same a b quiet plain = absurd b
