-- What a step does to the transfers that wait for a device, and to what the device has sent.
use Rattle.std.proofs.Common.{◌≡◌, ℕ, ◌-◌, ◌<◌, ◌≤◌, false, ◌==◌, List, [], ◌∷◌, ◌++◌, refl, subst, ◌∙◌, ne_eqb, arith}
use Rattle.std.specs.List.{list_any}
use Rattle.std.proofs.lemmas.Bool.{or_from, or_parts}
use Rattle.genie_base.specs.Bytes.{part}
use Rattle.genie_model.specs.Sending.{sent_of}
use Rattle.genie_model.specs.State.{State, Transfer}
use Rattle.genie_model.specs.Pending.{is_numbered}
use Rattle.genie_model.specs.Sending.{record_of, unsent, after_staging}
use Rattle.genie_laws.specs.Integrity.{Accepted}
use Rattle.genie_model.specs.Lemmas.Lists.{any_append}
use Rattle.genie_model.specs.Lemmas.SendQueues.{queue}
use Rattle.genie_laws.proofs.Outputs.Records.{Waits, AreWaiting, unsent_waiting, waiting_more, IsCall, Leaves, leaves_still, leaves_called, IsStaged, stage_waits, leaves_staged, Sends, moved_on, leaves_part, leaves_last}

-- nothing, one more that waits, or a step of the first one
pub data Turn (d : ℕ) (s : State) (q : List Transfer) (sent : List ℕ) (accepted : List State → List Accepted) : Type 0 where
  still : q ≡ queue d s.transfers → sent ≡ sent_of s d → ((later : List State) → accepted later ≡ []) → Turn d s q sent accepted
  called : (t : Transfer) (o : List State → Accepted) → Waits t → t.moved ≡ 0 → t.number ≡ s.next → ((later : List State) → IsCall t later (o later))
      → q ≡ queue d s.transfers ++ t ∷ [] → sent ≡ sent_of s d → ((later : List State) → accepted later ≡ o later ∷ []) → Turn d s q sent accepted
  stages : (t : Transfer) (rest : List Transfer) (k : ℕ) (now : List ℕ) → queue d s.transfers ≡ t ∷ rest → k ≤ t.len - t.staged → IsStaged s t k now t.class
      → q ≡ after_staging k now t ∷ rest → sent ≡ sent_of s d → ((later : List State) → accepted later ≡ []) → Turn d s q sent accepted
  sends : (t : Transfer) (rest : List Transfer) (k : ℕ) (bytes : List ℕ) → queue d s.transfers ≡ t ∷ rest → k < unsent t → Sends s t bytes t.class
      → q ≡ moved_on k t ∷ rest → sent ≡ sent_of s d ++ part t.moved k (record_of t bytes) → ((later : List State) → accepted later ≡ []) → Turn d s q sent accepted
  ends : (t : Transfer) (rest : List Transfer) (bytes : List ℕ) → queue d s.transfers ≡ t ∷ rest → Sends s t bytes t.class
      → q ≡ rest → sent ≡ sent_of s d ++ part t.moved (unsent t) (record_of t bytes) → ((later : List State) → accepted later ≡ []) → Turn d s q sent accepted

moved_waits : (t : Transfer) (k : ℕ) → k < unsent t → Waits t → Waits (moved_on k t)
moved_waits t k less w = let within = w.moved in record { moved = omega (arith, less, within); staged = w.staged; bytes = w.bytes }

-- they go on waiting
pub turn_waiting : (d : ℕ) (s : State) (q : List Transfer) (sent : List ℕ) (accepted : List State → List Accepted) → Turn d s q sent accepted → AreWaiting (queue d s.transfers) → AreWaiting q
turn_waiting d s q sent accepted (still same _ _) w = rw same w
turn_waiting d s q sent accepted (called t o waits unmoved _ _ same _ _) w = rw same (waiting_more (queue d s.transfers) t w waits unmoved)
turn_waiting d s q sent accepted (stages t rest k now first most is same _ _) w = let old = subst AreWaiting first w in rw same (stage_waits s t k now most is old.0, old.1)
turn_waiting d s q sent accepted (sends t rest k bytes first less is same _ _) w = let old = subst AreWaiting first w in rw same (moved_waits t k less old.0, old.1)
turn_waiting d s q sent accepted (ends t rest bytes first is same _ _) w = let old = subst AreWaiting first w in rw same (unsent_waiting rest old.1)

-- a number that was free stays so
pub turn_free : (d : ℕ) (s : State) (q : List Transfer) (sent : List ℕ) (accepted : List State → List Accepted) → Turn d s q sent accepted → (k : ℕ) → k < s.next → list_any (is_numbered k) (queue d s.transfers) ≡ false → list_any (is_numbered k) q ≡ false
turn_free d s q sent accepted (still same _ _) k low free = rw same free
turn_free d s q sent accepted (called t o _ _ number _ same _ _) k low free =
    let other : (t.number == k) ≡ false = ne_eqb t.number k (λ e. absurd (omega (arith, e, number))) in
    rw same (any_append (is_numbered k) (queue d s.transfers) (t ∷ []) ∙ or_from _ _ free (or_from (t.number == k) false other refl))
turn_free d s q sent accepted (stages t rest k now first _ _ same _ _) n low free = rw same (subst (λ l. list_any (is_numbered n) l ≡ false) first free)
turn_free d s q sent accepted (sends t rest k bytes first _ _ same _ _) n low free = rw same (subst (λ l. list_any (is_numbered n) l ≡ false) first free)
turn_free d s q sent accepted (ends t rest bytes first _ same _ _) n low free = rw same (or_parts (is_numbered n t) (list_any (is_numbered n) rest) (subst (λ l. list_any (is_numbered n) l ≡ false) first free)).1

-- what is sent from there on is what is sent from here on
pub turn_leaves : (d : ℕ) (s : State) (q : List Transfer) (sent : List ℕ) (accepted : List State → List Accepted) (later : List State) (os : List Accepted) (all : List ℕ) → Turn d s q sent accepted → AreWaiting (queue d s.transfers)
    → Leaves q sent later os all → Leaves (queue d s.transfers) (sent_of s d) (s ∷ later) (accepted later ++ os) all
turn_leaves d s q sent accepted later os all (still same says none) w l = rw none (leaves_still s (queue d s.transfers) (sent_of s d) later os all (rw (same, says) at l))
turn_leaves d s q sent accepted later os all (called t o waits unmoved number call same says one) w l = rw one (leaves_called s (queue d s.transfers) t (o later) (sent_of s d) later os all unmoved (call later) (rw (same, says) at l))
turn_leaves d s q sent accepted later os all (stages t rest k now first most is same says none) w l =
    let old = subst AreWaiting first w in rw (none, first) (leaves_staged s t rest k now (sent_of s d) later os all old.0 is (rw (same, says) at l))
turn_leaves d s q sent accepted later os all (sends t rest k bytes first less is same says none) w l =
    let old = subst AreWaiting first w in rw (none, first) (leaves_part s t later k bytes old.0 less rest (sent_of s d) os all is (rw (same, says) at l))
turn_leaves d s q sent accepted later os all (ends t rest bytes first is same says none) w l =
    let old = subst AreWaiting first w in rw (none, first) (leaves_last s t rest bytes (sent_of s d) later os all old.0 old.1 is (rw (same, says) at l))
