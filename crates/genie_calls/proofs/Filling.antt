-- An event that leaves the host as it is, over every bytes of the devices' files.
use Rattle.std.proofs.Common.{◌≡◌, ◌≢◌, ℕ, ◌+◌, ◌<◌, ◌≤◌, zero, suc, true, false, List, [], ◌∷◌, refl, sym, ap, subst, arith, ◌∙◌, length, get_or, map, eqb-true, eq-eqb}
use Rattle.std.specs.Prelude.{Option, Some, None, ◌==◌, if◌then◌else◌, option_and_then}
use Rattle.std.specs.Option.{option_map}
use Rattle.genie_base.specs.declared.config.Config.{Config}
use Rattle.genie_base.specs.declared.config.DeviceConfig.{DeviceConfig}
use Rattle.genie_base.specs.declared.event.Event.{Event}
use Rattle.genie_base.specs.declared.reply.Reply.{Reply}
use Rattle.genie_host.specs.Host.{HostView, Closed}
use Rattle.genie_store.specs.StoreView.{StoreView}
use Rattle.genie_object.specs.Memory.{Seen, seen_with}
use Rattle.genie_model.specs.State.{State}
use Rattle.genie_model.specs.Tables.{entry}
use Rattle.genie_kernel.specs.declared.kernel.Kernel.{Kernel}
use Rattle.genie_kernel.specs.Handles.{HasHandles}
use Rattle.genie_kernel.specs.Steps.{StepsTold}
use Rattle.genie_kernel.specs.Told.{by_number, input_at, output_at, rests_of, sents_of, told, told_at}
use Rattle.genie_kernel.specs.View.{bytes_with, state_of, view}
use Rattle.genie_changes.specs.Filling.{AreFiles, StepsFilled, state_over}
use Rattle.genie_changes.specs.Lemmas.Filling.{still_filled}
use Rattle.genie_receiving.specs.Lemmas.Handles.{input_alone, outputs_alone}

-- the bytes by the number of the first of these devices, from number s on, whose file has this handle
abbrev find_file : (Option DeviceConfig → Option ℕ) → List (Option DeviceConfig) → ℕ → (ℕ → List ℕ) → ℕ → Option (List ℕ)
find_file f [] s bytes h = None
find_file f (c ∷ cs) s bytes h = elim (f c) [ None ↦ find_file f cs (suc s) bytes h | Some g ↦ if g == h then Some (bytes s) else find_file f cs (suc s) bytes h ]

abbrev or_else : Option (List ℕ) → Option (List ℕ) → Option (List ℕ)
or_else None b = b
or_else (Some x) b = Some x

skip : (o : Option ℕ) (h : ℕ) (a b : Option (List ℕ)) → o ≢ Some h → (elim o [ None ↦ b | Some g ↦ if g == h then a else b ]) ≡ b
skip None h a b other = refl
skip (Some g) h a b other = elim (g == h) as (λ t. (g == h) ≡ t → (if t then a else b) ≡ b) [
  | true ↦ λ e. absurd (other (ap Some (eqb-true g h e)))
  | false ↦ λ e. refl
] refl

hit : (o : Option ℕ) (h : ℕ) (a b : Option (List ℕ)) → o ≡ Some h → (elim o [ None ↦ b | Some g ↦ if g == h then a else b ]) ≡ a
hit o h a b e = subst (λ (x : Option ℕ). (elim x [ None ↦ b | Some g ↦ if g == h then a else b ]) ≡ a) (sym e) (ap (λ t. if t then a else b) (eq-eqb h h refl))

file_absent : (f : Option DeviceConfig → Option ℕ) (cs : List (Option DeviceConfig)) (s : ℕ) (bytes : ℕ → List ℕ) (h : ℕ) → ((j : ℕ) → f (entry cs j) ≢ Some h) → find_file f cs s bytes h ≡ None
file_absent f [] s bytes h other = refl
file_absent f (c ∷ cs) s bytes h other = skip (f c) h (Some (bytes s)) (find_file f cs (suc s) bytes h) (other 0) ∙ file_absent f cs (suc s) bytes h (λ j. other (suc j))

file_found : (f : Option DeviceConfig → Option ℕ) (cs : List (Option DeviceConfig)) (s d : ℕ) (bytes : ℕ → List ℕ) (h : ℕ) → f None ≡ None → f (entry cs d) ≡ Some h → ((j : ℕ) → j ≢ d → f (entry cs j) ≢ Some h) → find_file f cs s bytes h ≡ Some (bytes (s + d))
file_found f [] s d bytes h none is other = let clash : None ≡ Some h = sym none ∙ is in absurd (cc)
file_found f (c ∷ cs) s zero bytes h none is other = hit (f c) h (Some (bytes s)) (find_file f cs (suc s) bytes h) is ∙ ap (λ (n : ℕ). Some (bytes n)) (omega arith)
file_found f (c ∷ cs) s (suc d) bytes h none is other =
    let rest = file_found f cs (suc s) d bytes h none is (λ j apart. other (suc j) (λ e. apart (omega (arith, e)))) in
    let at : suc s + d ≡ s + suc d = omega arith in
    skip (f c) h (Some (bytes s)) (find_file f cs (suc s) bytes h) (other 0 (λ e. absurd (omega (arith, e)))) ∙ rest ∙ ap (λ (n : ℕ). Some (bytes n)) at

-- the files of so many devices, from number s on
abbrev files_from : ℕ → ℕ → (ℕ → List ℕ) → List (List ℕ)
files_from s zero bytes = []
files_from s (suc n) bytes = bytes s ∷ files_from (suc s) n bytes

file_at : (s n : ℕ) (bytes : ℕ → List ℕ) (j : ℕ) → ((i : ℕ) → n ≤ i → bytes (s + i) ≡ []) → get_or (files_from s n bytes) j [] ≡ bytes (s + j)
file_at s zero bytes j none = sym (none j (omega arith))
file_at s (suc n) bytes zero none = let at : s ≡ s + 0 = omega arith in ap bytes at
file_at s (suc n) bytes (suc j) none =
    let at : suc s + j ≡ s + suc j = omega arith in
    file_at (suc s) n bytes j (λ i l. let there : suc s + i ≡ s + suc i = omega arith in ap bytes there ∙ none (suc i) (omega (arith, l))) ∙ ap bytes at

all_told : (host : HostView) (f : Option DeviceConfig → Option ℕ) (cs : List (Option DeviceConfig)) (s : ℕ) (bytes : ℕ → List ℕ) → ((j : ℕ) → j < length cs → told_at host (f (entry cs j)) ≡ Some (bytes (s + j))) → told host (map f cs) ≡ Some (files_from s (length cs) bytes)
all_told host f [] s bytes each = refl
all_told host f (c ∷ cs) s bytes each =
    let start : s + 0 ≡ s = omega arith in
    let first : told_at host (f c) ≡ Some (bytes s) = each 0 (omega arith) ∙ ap (λ (n : ℕ). Some (bytes n)) start in
    let rest : told host (map f cs) ≡ Some (files_from (suc s) (length cs) bytes) = all_told host f cs (suc s) bytes (λ j l. let at : s + suc j ≡ suc s + j = omega arith in each (suc j) (omega (arith, l)) ∙ ap (λ (n : ℕ). Some (bytes n)) at) in
    λ i. option_and_then (λ x. option_map (λ xs. x ∷ xs) (rest i)) (first i)

from_none : (n : ℕ) → n ≡ 0 + n
from_none n = omega arith

past_none : (cs : List (Option DeviceConfig)) (j : ℕ) → length cs ≤ j → entry cs j ≡ None
past_none [] j l = refl
past_none (c ∷ cs) zero l = absurd (omega (arith, l))
past_none (c ∷ cs) (suc j) l = past_none cs j (omega (arith, l))

module _ (c : Config) (real : HostView) (handles : HasHandles c real) (rests sents : ℕ → List ℕ) (ins : AreFiles input_at c.devices rests) (outs : AreFiles output_at c.devices sents) where
  -- a host that tells these bytes
  abbrev telling : HostView
  telling = record real { handle = λ h. record { mode = Closed; bytes = or_else (find_file input_at c.devices 0 rests h) (find_file output_at c.devices 0 sents h); faults = 0 } }

  input_told : (j : ℕ) (o : Option ℕ) → input_at (entry c.devices j) ≡ o → told_at telling o ≡ Some (rests j)
  input_told j None e = ap Some (sym (ins j e))
  input_told j (Some h) e =
      let alone = input_alone c real j h handles e in
      ap (λ (x : Option (List ℕ)). or_else x (find_file output_at c.devices 0 sents h)) (file_found input_at c.devices 0 j rests h refl e alone.inputs) ∙ ap (λ (n : ℕ). Some (rests n)) (omega arith)

  output_told : (j : ℕ) (o : Option ℕ) → output_at (entry c.devices j) ≡ o → told_at telling o ≡ Some (sents j)
  output_told j None e = ap Some (sym (outs j e))
  output_told j (Some h) e =
      let absent : find_file input_at c.devices 0 rests h ≡ None = file_absent input_at c.devices 0 rests h (λ i is. (input_alone c real i h handles is).outputs j e) in
      ap (λ (x : Option (List ℕ)). or_else x (find_file output_at c.devices 0 sents h)) absent ∙ file_found output_at c.devices 0 j sents h refl e (outputs_alone c real j h handles e) ∙ ap (λ (n : ℕ). Some (sents n)) (omega arith)

  rests_told : rests_of telling c ≡ Some rests
  rests_told =
      let all = all_told telling input_at c.devices 0 rests (λ j l. input_told j (input_at (entry c.devices j)) refl ∙ ap (λ (n : ℕ). Some (rests n)) (from_none j)) in
      let same : by_number (files_from 0 (length c.devices) rests) ≡ rests = λ i j. (file_at 0 (length c.devices) rests j (λ n l. ap rests (sym (from_none n)) ∙ ins n (ap input_at (past_none c.devices n l))) ∙ ap rests (sym (from_none j))) i in
      ap (option_map by_number) all ∙ ap Some same

  sents_told : sents_of telling c ≡ Some sents
  sents_told =
      let all = all_told telling output_at c.devices 0 sents (λ j l. output_told j (output_at (entry c.devices j)) refl ∙ ap (λ (n : ℕ). Some (sents n)) (from_none j)) in
      let same : by_number (files_from 0 (length c.devices) sents) ≡ sents = λ i j. (file_at 0 (length c.devices) sents j (λ n l. ap sents (sym (from_none n)) ∙ outs n (ap output_at (past_none c.devices n l))) ∙ ap sents (sym (from_none j))) i in
      ap (option_map by_number) all ∙ ap Some same

  over : (k : Kernel) (o : Option Seen) → option_map (state_of k) (bytes_with o (Some rests) (Some sents)) ≡ option_map (λ (z : Seen). state_of k (record { seen = z; rests = rests; sents = sents })) o
  over k None = refl
  over k (Some z) = refl

  viewed : (k : Kernel) (store : StoreView) → k.config ≡ c → view k telling store ≡ state_over k store rests sents
  viewed k store same = (λ i. option_map (state_of k) (bytes_with (seen_with k.memory store) (rests_of telling (same i)) (sents_of telling (same i)))) ∙ (λ i. option_map (state_of k) (bytes_with (seen_with k.memory store) (rests_told i) (sents_told i))) ∙ over k (seen_with k.memory store)

  over_files : (old new : Kernel) (e : Event) (r : Reply) (v w : StoreView) → old.config ≡ c → new.config ≡ c → ((host : HostView) → StepsTold (view old host v) e (view new host w) r) → StepsTold (state_over old v rests sents) e (state_over new w rests sents) r
  over_files old new e r v w was is steps =
      subst (λ (x : Option State). StepsTold x e (state_over new w rests sents) r) (viewed old v was) (subst (λ (x : Option State). StepsTold (view old telling v) e x r) (viewed new w is) (steps telling))

-- so the event is filled
pub told_filled : (old new : Kernel) (e : Event) (r : Reply) (host : HostView) (v w : StoreView) → HasHandles old.config host → new.config ≡ old.config → ((h : HostView) → StepsTold (view old h v) e (view new h w) r) → StepsFilled old e new r host host v w
told_filled old new e r host v w handles same steps = still_filled old new e r host v w (λ rests sents ins outs. over_files old.config host handles rests sents ins outs old new e r v w refl same steps)
