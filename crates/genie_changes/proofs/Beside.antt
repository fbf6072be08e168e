-- The pages that devices hold, with one strong transfer more.
use Rattle.std.proofs.Common.{◌≡◌, ℕ, true, not, cond, List, [], ◌∷◌, ◌++◌, sym, ap, subst, ◌∙◌}
use Rattle.std.specs.Prelude.{All}
use Rattle.std.proofs.lemmas.List.Elements.{filter-append}
use Rattle.genie_object.specs.declared.memory.Memory.{Memory}
use Rattle.genie_region.specs.declared.region.Region.{Region}
use Rattle.genie_kernel.specs.declared.transfer.Transfer.{Transfer}
use Rattle.genie_kernel.specs.Calls.{is_strong_call}
use Rattle.genie_kernel.specs.Held.{AreHeldPages, HoldsPages, weak_transfers}
use Rattle.genie_changes.proofs.Lists.{append_none}

-- a strong one holds no page
pub held_beside_strong : (page : ℕ) (m : Memory) (rs : List Region) (t : Transfer) (ts : List Transfer) → is_strong_call t ≡ true → AreHeldPages page m rs ts → AreHeldPages page m rs (ts ++ t ∷ [])
held_beside_strong page m rs t ts strong h =
    let same : weak_transfers (ts ++ t ∷ []) ≡ weak_transfers ts = filter-append (λ u. not (is_strong_call u)) ts (t ∷ []) ∙ ap (λ b. weak_transfers ts ++ cond (not b) (t ∷ []) []) strong ∙ append_none (weak_transfers ts) in
    record { page_in = h.page_in; frame_of = h.frame_of; each = subst (All (HoldsPages page m rs h.page_in h.frame_of)) (sym same) h.each }
