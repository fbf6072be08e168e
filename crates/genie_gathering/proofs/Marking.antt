-- Accepted receive steps under marks, and the states behind them.
use Rattle.std.proofs.Common.{◌≡◌, ℕ, Bool, true, false, List, [], refl, sym, ap, subst, ◌∙◌, eq-eqb, inl, inr}
use Rattle.std.specs.Prelude.{None, ◌==◌, if◌then◌else◌}
use Rattle.std.proofs.lemmas.Bool.{ne_eqb}
use Rattle.genie_base.specs.Lemmas.Places.{same_or}
use Rattle.genie_base.specs.Events.{mark_of}
use Rattle.genie_base.specs.declared.event.Event.{Event}
use Rattle.genie_base.specs.declared.event.Event.TheVariants.{Recv}
use Rattle.genie_base.specs.declared.reply.Mark.{Mark}
use Rattle.genie_base.specs.declared.reply.Mark.TheVariants as mark
use Rattle.genie_base.specs.declared.reply.Reply.{Reply}
use Rattle.genie_base.specs.declared.reply.Reply.TheVariants as reply
use Rattle.genie_object.specs.Memory.{Seen}
use Rattle.genie_orderly.specs.Orderly.{IsOrderly}
use Rattle.genie_model.specs.Receiving.{header_reply}
use Rattle.genie_model.specs.Refusing.{refuse}
use Rattle.genie_model.specs.Space.{tidy}
use Rattle.genie_model.specs.State.{State}
use Rattle.genie_model.specs.Step.{Outcome, marked, perform, accept, failed, may_fail, with_budget}
use Rattle.genie_kernel.specs.declared.kernel.Kernel.{Kernel}
use Rattle.genie_kernel.specs.Good.{IsGood}
use Rattle.genie_kernel.specs.Steps.{Steps, StaysOrderly}
use Rattle.genie_kernel.specs.View.{Bytes, state_of, outline, no_bytes}
use Rattle.genie_kernel.specs.Lemmas.Blind.{refuses_alike}
use Rattle.genie_kernel.specs.Lemmas.DeviceViews.{rests_blind}
use Rattle.genie_gathering.specs.Devices.{with_rest}

-- where nothing failed
pub plain_steps : (s new : State) (e : Event) (r : Reply) → mark_of r ≡ mark.NoFault → tidy new ≡ new → (new, r) ≡ perform s e → Steps s e new r
plain_steps s new e r m tidied is = record {
  state = sym tidied ∙ ap (λ (o : Outcome). tidy o.0) is ∙ sym (ap (λ (x : Mark). (marked s e x).0) m);
  reply_is = ap (λ (o : Outcome). o.1) is ∙ sym (ap (λ (x : Mark). (marked s e x).1) m);
}

either_state : (c : Bool) (s new t : State) → (c ≡ true → new ≡ s) → (c ≡ false → new ≡ t) → new ≡ (if c then s else t)
either_state true s new t a b = a refl
either_state false s new t a b = b refl

-- where the device's host failed after k bytes
pub failed_steps : (s new : State) (e : Event) (k : ℕ) → may_fail s e k ≡ true → tidy new ≡ new → ((k == 0) ≡ true → new ≡ s) → ((k == 0) ≡ false → new ≡ (perform s (with_budget e k)).0) → Steps s e new (reply.Fault k)
failed_steps s new e k may tidied none some =
    let is : marked s e (mark.Device k) ≡ failed s e k = ap (λ (c : Bool). if c then failed s e k else accept s e) may in record {
      state = either_state (k == 0) s new (accept s (with_budget e k)).0 none (λ no. sym tidied ∙ ap tidy (some no)) ∙ sym (ap (λ (o : Outcome). o.0) is);
      reply_is = sym (ap (λ (o : Outcome). o.1) is);
    }

header_mark_of : (c : Bool) (h : ℕ) → mark_of (if c then reply.End else reply.Got h) ≡ mark.NoFault
header_mark_of true h = refl
header_mark_of false h = refl

pub header_mark : (h : ℕ) → mark_of (header_reply h) ≡ mark.NoFault
header_mark h = header_mark_of (h == 0) h

-- zeros everywhere, and an input of these bytes
abbrev pub zeros_with : ℕ → ℕ → List ℕ → Bytes
zeros_with page d bytes = with_rest d bytes (no_bytes page)

pub zeros_rest : (page d : ℕ) (bytes : List ℕ) → (zeros_with page d bytes).rests d ≡ bytes
zeros_rest page d bytes = ap (λ c. if c then bytes else []) (eq-eqb d d refl)

-- a kernel is orderly to which a receive step leads from one that stands for zeros
pub orderly_behind : StaysOrderly → (k new : Kernel) (d n : ℕ) (r : Reply) (bytes rest : List ℕ) → IsGood k → refuse (outline k) (Recv d n) ≡ None → new.config ≡ k.config
    → Steps (state_of k (zeros_with k.config.page d bytes)) (Recv d n) (state_of new (with_rest d rest (zeros_with k.config.page d bytes))) r → IsOrderly (outline new)
orderly_behind law k new d n r bytes rest g accepted config steps =
    let page = k.config.page in
    let b : Bytes = zeros_with page d bytes in
    let c : Bytes = with_rest d rest b in
    let was = rests_blind k b.seen (λ j. []) b.rests (λ j. []) (λ j. []) g.orderly in
    let is = law (state_of k b) (state_of new c) (Recv d n) r refl (refuses_alike k b (Recv d n) ∙ accepted) steps was in
    let seen : (no_bytes page).seen ≡ (no_bytes new.config.page).seen = ap (λ (x : _). (no_bytes x.page).seen) (sym config) in
    subst (λ (s : Seen). IsOrderly (state_of new (record { seen = s; rests = λ j. []; sents = λ j. [] }))) seen
    (rests_blind new c.seen c.rests (λ j. []) (λ j. []) (λ j. []) is)

rest_again : (d : ℕ) (rest : List ℕ) (rests : ℕ → List ℕ) → rests d ≡ rest → (j : ℕ) → (if j == d then rest else rests j) ≡ rests j
rest_again d rest rests is j = elim (same_or j d) [
  | inl e ↦ ap (λ c. if c then rest else rests j) (eq-eqb j d e) ∙ sym is ∙ ap rests (sym e)
  | inr n ↦ ap (λ c. if c then rest else rests j) (ne_eqb j d n)
]

-- an input of which nothing was taken
pub rest_same : (d : ℕ) (rest : List ℕ) (b : Bytes) → b.rests d ≡ rest → with_rest d rest b ≡ b
rest_same d rest b is = λ i. record b { rests = λ j. rest_again d rest b.rests is j i }
