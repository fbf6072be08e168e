-- A move ends with its region, as long as it has an owner.
use Rattle.std.proofs.Common.{◌≡◌, ◌≢◌, ℕ, true, refl, sym, subst, true≢false}
use Rattle.std.specs.Prelude.{Option, Some, None, IsTrue, option_and_then, is_some}
use Rattle.genie_base.specs.declared.event.Event.TheVariants.{Finish}
use Rattle.genie_base.specs.declared.reply.Reply.TheVariants as reply
use Rattle.genie_base.specs.declared.semantics.Class.TheVariants.{Move}
use Rattle.genie_base.specs.declared.semantics.Direction.{Direction}
use Rattle.genie_base.specs.declared.semantics.Direction.TheVariants.{Outward, Inward}
use Rattle.genie_model.specs.Ending.{without_transfer, region_of, finish_move, finish_owned, finish_for, finish}
use Rattle.genie_laws.specs.Laws.{MovesAreNotLost}
use Rattle.genie_orderly.specs.Orderly.{LiesInRegion, IsOrderly}
use Rattle.genie_model.specs.Pending.{is_inward, is_numbered, pending}
use Rattle.genie_model.specs.Regions.{region_numbered}
use Rattle.genie_model.specs.State.{State, Region, Transfer}
use Rattle.genie_model.specs.Lemmas.Lists.{all_has, find_has}
use Rattle.genie_orderly.specs.Lemmas.NamingTransfers.{fine_in}
use Rattle.genie_orderly.specs.Lemmas.NamedRanges.{Fine, orderly_stand}
use Rattle.genie_model.specs.Lemmas.Steps.{outcome_so}

there : (u : Transfer) (o : Option Region) → LiesInRegion u o → is_some o ≡ true
there u None h = absurd h
there u (Some r) h = refl

region_here : (s : State) (u : Transfer) (named : Option ℕ) → Fine s u Move named → (p : ℕ) → u.owner ≡ Some p → IsTrue (is_inward u.direction) → is_some (option_and_then (region_numbered s) named) ≡ true
region_here s u None fine p owned inward = let none = fine inward in absurd (cc)
region_here s u (Some k) fine p owned inward = there u (region_numbered s k) fine.1.1

move_kept : (s : State) (t : Transfer) (o : Option Region) → is_some o ≡ true → (finish_move s t o).1 ≢ reply.Lost
move_kept s t None here = absurd (true≢false (sym here))
move_kept s t (Some r) here = λ e. absurd (cc)

owned_kept : (s : State) (p : ℕ) (t : Transfer) (direction : Direction) → t.class ≡ Move → (IsTrue (is_inward direction) → is_some (region_of s t) ≡ true) → (finish_owned s p t direction).1 ≢ reply.Lost
owned_kept s p t Outward class here = λ e. absurd (cc)
owned_kept s p t Inward class here = rw class (move_kept s t (region_of s t) (here refl))

for_kept : (s : State) (t : Transfer) (o : Option ℕ) → t.class ≡ Move → ((p : ℕ) → o ≡ Some p → IsTrue (is_inward t.direction) → is_some (region_of s t) ≡ true) → (finish_for s t o).1 ≢ reply.Lost
for_kept s t None class here = λ e. absurd (cc)
for_kept s t (Some p) class here = owned_kept s p t t.direction class (here p refl)

finish_kept : (s : State) (k : ℕ) (t : Transfer) → IsOrderly s → pending s k ≡ Some t → t.class ≡ Move → (finish s k).1 ≢ reply.Lost
finish_kept s k t o found class =
    let fine = all_has (fine_in s) s.transfers (orderly_stand s o).each t (find_has (is_numbered k) s.transfers t found).0 in
    rw found (for_kept (without_transfer s k) t t.owner class (region_here s t t.region (subst (λ c. Fine s t c t.region) class fine)))

pub moves_are_not_lost : MovesAreNotLost
moves_are_not_lost s k m t o found class = outcome_so (λ x. x.1 ≢ reply.Lost) s (Finish k) (λ w e. absurd (cc)) (λ e. absurd (cc)) (λ _. finish_kept s k t o found class) (λ _ n fails. absurd (true≢false (sym fails))) m
