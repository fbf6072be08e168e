-- A send step where host and store tell their bytes.
use Rattle.std.proofs.Common.{◌≡◌, ◌≢◌, ℕ, zero, suc, true, false, List, [], ◌∷◌, ◌++◌, refl, sym, ap, subst, arith, rules, ◌∙◌, map, get_or, eqb-true}
use Rattle.std.specs.Prelude.{Option, Some, None, IfSome, option_and_then, ◌==◌, if◌then◌else◌}
use Rattle.std.specs.Option.{option_map}
use Rattle.std.specs.Io.KnownBytes.{Appends}
use Rattle.genie_base.specs.declared.config.Config.{Config}
use Rattle.genie_base.specs.declared.event.Event.{Event}
use Rattle.genie_base.specs.declared.reply.Reply.{Reply}
use Rattle.genie_host.specs.Host.{HostView, OthersKept, HandleState}
use Rattle.genie_object.specs.Memory.{seen}
use Rattle.genie_store.specs.StoreView.{StoreView}
use Rattle.genie_model.specs.Refusing.{refuse}
use Rattle.genie_kernel.specs.declared.kernel.Kernel.{Kernel}
use Rattle.genie_kernel.specs.Steps.{Steps, StepsTold, bytes_over}
use Rattle.genie_kernel.specs.Told.{by_number, input_at, output_at, rests_of, sents_of, told, told_at}
use Rattle.genie_kernel.specs.View.{bytes_with, outline, state_of, view}
use Rattle.genie_kernel.specs.Lemmas.Stepping.{accepted_step}
use Rattle.genie_sending.proofs.Devices.{more_at, more_sent}
use Rattle.genie_base.specs.declared.event.Event.TheVariants.{Send}
use Rattle.genie_object.specs.Memory.{Seen}
use Rattle.genie_model.specs.Tables.{entry}
use Rattle.genie_changes.specs.Filling.{StepsFilled, filled_at, state_over}
use Rattle.genie_changes.specs.Lemmas.Filling.{filled_same, none_taken}

option_same : (before after : HostView) (h : ℕ) (o : Option ℕ) → o ≢ Some h → OthersKept h before.handle after.handle → told_at after o ≡ told_at before o
option_same before after h None other kept = refl
option_same before after h (Some a) other kept = ap (λ (s : HandleState). s.bytes) (kept a (λ e. other (ap Some e)))

-- what other handles tell is as before
told_same : (before after : HostView) (h : ℕ) (hs : List (Option ℕ)) → ((j : ℕ) → get_or hs j None ≢ Some h) → OthersKept h before.handle after.handle → told after hs ≡ told before hs
told_same before after h [] other kept = refl
told_same before after h (x ∷ hs) other kept =
    let first = option_same before after h x (other 0) kept in
    let later = told_same before after h hs (λ j. other (suc j)) kept in
    λ i. option_and_then (λ bytes. option_map (λ rest. bytes ∷ rest) (later i)) (first i)

-- the bytes of the first one and of the others
record Parts (first : Option (List ℕ)) (later : Option (List (List ℕ))) (rs : List (List ℕ)) : Type 0 where
  pub head : List ℕ
  pub tail : List (List ℕ)
  pub head_is : first ≡ Some head
  pub tail_is : later ≡ Some tail
  pub joined : rs ≡ head ∷ tail

parts : (first : Option (List ℕ)) (later : Option (List (List ℕ))) (rs : List (List ℕ)) → option_and_then (λ bytes. option_map (λ rest. bytes ∷ rest) later) first ≡ Some rs → Parts first later rs
parts None later rs e = absurd (cc)
parts (Some x) None rs e = absurd (cc)
parts (Some x) (Some xs) rs e = record { head = x; tail = xs; head_is = refl; tail_is = refl; joined = cc }

appended : (old new : Option (List ℕ)) (more xs : List ℕ) → old ≡ Some xs → Appends old new more → new ≡ Some (xs ++ more)
appended None new more xs e h = absurd (cc)
appended (Some x) None more xs e h = absurd h
appended (Some x) (Some y) more xs e h = let same : x ≡ xs = cc in ap Some (h ∙ ap (λ l. l ++ more) same)

-- what is told afterwards
record Grown (d : ℕ) (more : List ℕ) (after : HostView) (hs : List (Option ℕ)) (rs : List (List ℕ)) : Type 0 where
  pub files : List (List ℕ)
  pub now : told after hs ≡ Some files
  pub here : get_or files d [] ≡ get_or rs d [] ++ more
  pub others : (j : ℕ) → j ≢ d → get_or files j [] ≡ get_or rs j []

told_more : (before after : HostView) (h d : ℕ) (more : List ℕ) (hs : List (Option ℕ)) (rs : List (List ℕ)) → get_or hs d None ≡ Some h → ((j : ℕ) → j ≢ d → get_or hs j None ≢ Some h) → OthersKept h before.handle after.handle → Appends (before.handle h).bytes (after.handle h).bytes more → told before hs ≡ Some rs → Grown d more after hs rs
told_more before after h d more [] rs at other kept bytes e = absurd (cc)
told_more before after h zero more (x ∷ hs) rs at other kept bytes e =
    let p = parts (told_at before x) (told before hs) rs e in
    let old : (before.handle h).bytes ≡ Some p.head = sym (ap (told_at before) at) ∙ p.head_is in
    let new : (after.handle h).bytes ≡ Some (p.head ++ more) = appended (before.handle h).bytes (after.handle h).bytes more p.head old bytes in
    let later : told after hs ≡ Some p.tail = told_same before after h hs (λ j. other (suc j) (λ z. absurd (omega (arith, z)))) kept ∙ p.tail_is in
    let first : told_at after x ≡ Some (p.head ++ more) = ap (told_at after) at ∙ new in
    record {
      files = (p.head ++ more) ∷ p.tail;
      now = (λ i. option_and_then (λ y. option_map (λ l. y ∷ l) (later i)) (first i));
      here = ap (λ l. get_or l 0 [] ++ more) (sym p.joined);
      others = λ j ne. elim j as (λ i. i ≢ 0 → get_or ((p.head ++ more) ∷ p.tail) i [] ≡ get_or rs i []) [ zero ↦ λ z. absurd (z refl) | suc i ↦ λ z. ap (λ l. get_or l (suc i) []) (sym p.joined) ] ne;
    }
told_more before after h (suc d) more (x ∷ hs) rs at other kept bytes e =
    let p = parts (told_at before x) (told before hs) rs e in
    let l = told_more before after h d more hs p.tail at (λ j n. other (suc j) (λ z. n (omega (arith, z)))) kept bytes p.tail_is in
    let now : told after hs ≡ Some l.files = l.now in
    let first : told_at after x ≡ Some p.head = option_same before after h x (other 0 (λ z. absurd (omega (arith, z)))) kept ∙ p.head_is in
    record {
      files = p.head ∷ l.files;
      now = (λ i. option_and_then (λ y. option_map (λ r. y ∷ r) (now i)) (first i));
      here = l.here ∙ ap (λ r. get_or r (suc d) [] ++ more) (sym p.joined);
      others = λ j ne. elim j as (λ i. i ≢ suc d → get_or (p.head ∷ l.files) i [] ≡ get_or rs i []) [ zero ↦ λ z. ap (λ r. get_or r 0 []) (sym p.joined) | suc i ↦ λ z. l.others i (λ s. z (ap suc s)) ∙ ap (λ r. get_or r (suc i) []) (sym p.joined) ] ne;
    }

at_place : (files rs : List (List ℕ)) (d j : ℕ) (more : List ℕ) → get_or files d [] ≡ get_or rs d [] ++ more → ((i : ℕ) → i ≢ d → get_or files i [] ≡ get_or rs i []) → by_number files j ≡ more_at (by_number rs) d more j
at_place files rs d j more here others = elim (j == d) as (λ b. (j == d) ≡ b → by_number files j ≡ (if b then by_number rs j ++ more else by_number rs j)) [
  | true ↦ λ e. let same : j ≡ d = eqb-true j d e in subst (λ i. get_or files i [] ≡ get_or rs i [] ++ more) (sym same) here
  | false ↦ λ e. others j (λ same. let test : (j == d) ≡ true = grind (arith, rules, same) in let never : true ≡ false = sym test ∙ e in absurd (cc))
] refl

-- the host tells what it told, and more of one output
module _ (d h : ℕ) (more : List ℕ) (before after : HostView) (c : Config) (at : get_or (map output_at c.devices) d None ≡ Some h) (outputs : (j : ℕ) → j ≢ d → get_or (map output_at c.devices) j None ≢ Some h) (inputs : (j : ℕ) → get_or (map input_at c.devices) j None ≢ Some h) (kept : OthersKept h before.handle after.handle) (bytes : Appends (before.handle h).bytes (after.handle h).bytes more) where
  rests_same : rests_of after c ≡ rests_of before c
  rests_same = ap (option_map by_number) (told_same before after h (map input_at c.devices) inputs kept)

  sents_by : (rs : Option (List (List ℕ))) → told before (map output_at c.devices) ≡ rs → (sents : ℕ → List ℕ) → option_map by_number rs ≡ Some sents → sents_of after c ≡ Some (more_at sents d more)
  sents_by None e sents is = absurd (cc)
  sents_by (Some rs) e sents is =
      let l = told_more before after h d more (map output_at c.devices) rs at outputs kept bytes e in
      let same : by_number rs ≡ sents = cc in
      let grown : by_number l.files ≡ more_at (by_number rs) d more = λ i j. at_place l.files rs d j more l.here l.others i in
      ap (option_map by_number) l.now ∙ ap Some grown ∙ ap (λ (z : ℕ → List ℕ). Some (more_at z d more)) same

  sents_more : (sents : ℕ → List ℕ) → sents_of before c ≡ Some sents → sents_of after c ≡ Some (more_at sents d more)
  sents_more sents e = sents_by (told before (map output_at c.devices)) refl sents e

  module _ (old new : Kernel) (e : Event) (reply : Reply) (accepted : refuse (outline old) e ≡ None) (is : old.config ≡ c) (same : new.config ≡ c) (memory : new.memory ≡ old.memory) where
    told_by : (P : (ℕ → List ℕ) → Type 0) (slots : Option (ℕ → List ℕ)) (rs ss : Option (ℕ → List ℕ)) → IfSome slots P → ((z : ℕ → List ℕ) → P z → (rests sents : ℕ → List ℕ) → Steps (state_of old (bytes_over old.memory z rests sents)) e (state_of new (more_sent (bytes_over old.memory z rests sents) d more)) reply)
        → rests_of before c ≡ rs → sents_of before c ≡ ss
        → StepsTold (option_map (state_of old) (bytes_with (option_map (seen old.memory) slots) rs ss)) e (option_map (state_of new) (bytes_with (option_map (seen old.memory) slots) (rests_of after c) (sents_of after c))) reply
    told_by P None rs ss p steps r q = tt
    told_by P (Some z) None ss p steps r q = tt
    told_by P (Some z) (Some rests) None p steps r q = tt
    told_by P (Some z) (Some rests) (Some sents) p steps r q =
        let flat = accepted_step old (bytes_over old.memory z rests sents) e _ reply accepted (steps z p rests sents) in
        let left : rests_of after c ≡ Some rests = rests_same ∙ r in
        let sent : sents_of after c ≡ Some (more_at sents d more) = sents_more sents q in
        subst (λ x. StepsTold (Some (state_of old (bytes_over old.memory z rests sents))) e (option_map (state_of new) (bytes_with (Some (seen old.memory z)) x (sents_of after c))) reply) (sym left)
        (subst (λ x. StepsTold (Some (state_of old (bytes_over old.memory z rests sents))) e (option_map (state_of new) (bytes_with (Some (seen old.memory z)) (Some rests) x)) reply) (sym sent) flat)

    pub told_steps : (P : (ℕ → List ℕ) → Type 0) (store : StoreView) → IfSome store.slots P → ((z : ℕ → List ℕ) → P z → (rests sents : ℕ → List ℕ) → Steps (state_of old (bytes_over old.memory z rests sents)) e (state_of new (more_sent (bytes_over old.memory z rests sents) d more)) reply)
        → StepsTold (view old before store) e (view new after store) reply
    told_steps P store p steps =
        subst (λ m. StepsTold (view old before store) e (option_map (state_of new) (bytes_with (option_map (seen m) store.slots) (rests_of after new.config) (sents_of after new.config))) reply) (sym memory)
        (subst (λ (f : Config). StepsTold (view old before store) e (option_map (state_of new) (bytes_with (option_map (seen old.memory) store.slots) (rests_of after f) (sents_of after f))) reply) (sym same)
        (subst (λ (f : Config). StepsTold (option_map (state_of old) (bytes_with (option_map (seen old.memory) store.slots) (rests_of before f) (sents_of before f))) e (option_map (state_of new) (bytes_with (option_map (seen old.memory) store.slots) (rests_of after c) (sents_of after c))) reply) (sym is)
        (told_by P store.slots (rests_of before c) (sents_of before c) p steps refl refl)))

more_filled : (d : ℕ) (more : List ℕ) (sents : ℕ → List ℕ) → more_at sents d more ≡ filled_at d (sents d ++ more) sents
more_filled d more sents = λ i j. each j i
  where
    each : (j : ℕ) → more_at sents d more j ≡ filled_at d (sents d ++ more) sents j
    each j = elim (j == d) as (λ b. (j == d) ≡ b → (if b then sents j ++ more else sents j) ≡ (if b then sents d ++ more else sents j)) [
      | true ↦ λ e. ap (λ k. sents k ++ more) (eqb-true j d e)
      | false ↦ λ e. refl
    ] refl

-- so it is where the host tells some files and not others, over every bytes that the others may have
module _ (d h n : ℕ) (more : List ℕ) (before after : HostView) (old new : Kernel) (reply : Reply) (at : output_at (entry old.config.devices d) ≡ Some h) (other : input_at (entry old.config.devices d) ≢ Some h) (kept : OthersKept h before.handle after.handle) (bytes : Appends (before.handle h).bytes (after.handle h).bytes more) (accepted : refuse (outline old) (Send d n) ≡ None) (memory : new.memory ≡ old.memory) where
  filled_by : (P : (ℕ → List ℕ) → Type 0) (slots : Option (ℕ → List ℕ)) → IfSome slots P → ((z : ℕ → List ℕ) → P z → (rests sents : ℕ → List ℕ) → Steps (state_of old (bytes_over old.memory z rests sents)) (Send d n) (state_of new (more_sent (bytes_over old.memory z rests sents) d more)) reply) → (rests sents : ℕ → List ℕ)
      → StepsTold (option_map (λ (z : Seen). state_of old (record { seen = z; rests = filled_at d ([] ++ rests d) rests; sents = sents })) (option_map (seen old.memory) slots)) (Send d n) (option_map (λ (z : Seen). state_of new (record { seen = z; rests = rests; sents = filled_at d (sents d ++ more) sents })) (option_map (seen old.memory) slots)) reply
  filled_by P None p steps rests sents = tt
  filled_by P (Some z) p steps rests sents =
      let flat = accepted_step old (bytes_over old.memory z rests sents) (Send d n) _ reply accepted (steps z p rests sents) in
      subst (λ (x : ℕ → List ℕ). StepsTold (Some (state_of old (bytes_over old.memory z x sents))) (Send d n) (Some (state_of new (bytes_over old.memory z rests (filled_at d (sents d ++ more) sents)))) reply) (sym (filled_same d rests ([] ++ rests d) refl))
      (subst (λ (x : ℕ → List ℕ). StepsTold (Some (state_of old (bytes_over old.memory z rests sents))) (Send d n) (Some (state_of new (bytes_over old.memory z rests x))) reply) (more_filled d more sents) flat)

  pub filled_steps : (P : (ℕ → List ℕ) → Type 0) (store : StoreView) → IfSome store.slots P → ((z : ℕ → List ℕ) → P z → (rests sents : ℕ → List ℕ) → Steps (state_of old (bytes_over old.memory z rests sents)) (Send d n) (state_of new (more_sent (bytes_over old.memory z rests sents) d more)) reply) → StepsFilled old (Send d n) new reply before after store store
  filled_steps P store p steps = record {
    taken = [];
    sent = more;
    ended = false;
    input = none_taken (told_at before (input_at (entry old.config.devices d))) (told_at after (input_at (entry old.config.devices d))) (option_same before after h (input_at (entry old.config.devices d)) other kept);
    output = subst (λ (o : Option ℕ). Appends (told_at before o) (told_at after o) more) (sym at) bytes;
    at_end = λ is. let clash : false ≡ true = is in absurd (cc);
    steps = λ rests sents a b left. subst (λ m. StepsTold (state_over old store (filled_at d ([] ++ rests d) rests) sents) (Send d n) (option_map (λ (z : Seen). state_of new (record { seen = z; rests = rests; sents = filled_at d (sents d ++ more) sents })) (option_map (seen m) store.slots)) reply) (sym memory) (filled_by P store.slots p steps rests sents);
  }
