-- A region is removed.
use Rattle.std.proofs.Common.{◌≡◌, ◌≢◌, ℕ, true, false, cond, List, [], ◌∷◌, refl, sym, ap, subst, arith, rules, ◌∙◌, inl, inr, eq-eqb}
use Rattle.std.specs.Prelude.{Some, None, AllPairs, find, is_some}
use Rattle.std.specs.Option.{option_map}
use Rattle.std.proofs.lemmas.Bool.{not-false}
use Rattle.genie_base.specs.declared.event.Event.TheVariants.{Unmap}
use Rattle.genie_base.specs.declared.refusal.Refusal.TheVariants as cause
use Rattle.genie_base.specs.declared.reply.Reply.TheVariants as reply
use Rattle.genie_frame.specs.FrameTable.{FrameTable}
use Rattle.genie_region.specs.declared.region.Region.{Region}
use Rattle.genie_region.specs.Layouts.{starts_at}
use Rattle.genie_space.specs.Spaces as spaces
use Rattle.genie_model.specs.Lemmas.Causes.{none_holds}
use Rattle.genie_model.specs.Lemmas.Lists.{Has, find_has, pairs_head, pairs_tail}
use Rattle.genie_model.specs.Refusing.{refuse, causes}
use Rattle.genie_model.specs.Space.{remove, remove_found, region_from, tidy}
use Rattle.genie_model.specs.Tables.{entry}
use Rattle.genie_kernel.specs.declared.kernel.Kernel.{Kernel}
use Rattle.genie_kernel.specs.Good.{IsGood}
use Rattle.genie_kernel.specs.Regions.{has_id, region_view, regions_of}
use Rattle.genie_kernel.specs.Steps.{Steps, bytes_over}
use Rattle.genie_kernel.specs.View.{Bytes, state_of, outline, no_bytes}
use Rattle.genie_kernel.specs.Lemmas.Processes.{alive_view, is_some_map, region_from_view}
use Rattle.genie_changes.specs.Removal.{RemovesRegion, ShowsRemoval}
use Rattle.genie_changes.specs.Settled.{IsSettled}
use Rattle.genie_spaces.specs.ExitLaws.{RemovalLaws}
use Rattle.genie_spaces.specs.ServingPaged.{IsServedPaged}
use Rattle.genie_spaces.proofs.Protecting.{none_some}

pub record MayUnmap (k : Kernel) (p g : ℕ) : Type 0 where
  pub alive : spaces.is_alive p k.spaces ≡ true
  pub some : find (starts_at g) (spaces.regions_of p k.spaces) ≢ None

pub may_unmap : (k : Kernel) (p g : ℕ) → refuse (outline k) (Unmap p g) ≡ None → MayUnmap k p g
may_unmap k p g accepted =
    let none = none_holds (causes (outline k) (Unmap p g)) accepted in
    let b = no_bytes k.config.page in
    let s = b.seen.entry_bytes in record {
      alive = sym (alive_view s k.spaces.processes k.queues p) ∙ not-false _ (none 0 (true, cause.Proc) (omega arith));
      some = none_some (find (starts_at g) (spaces.regions_of p k.spaces)) (sym (ap is_some (region_from_view k b p g) ∙ is_some_map (region_view s) (find (starts_at g) (regions_of (entry k.spaces.processes p)))) ∙ not-false _ (none 1 (true, cause.Proc) (omega arith)));
    }

-- a region is found by its number, where numbers differ
pub found_by_number : (r : Region) (rs : List Region) → AllPairs (λ (a b : Region). a.id.0 ≢ b.id.0) rs → Has r rs → find (has_id r.id.0) rs ≡ Some r
found_by_number r [] apart h = absurd h
found_by_number r (x ∷ rs) apart (inl same) = ap (λ b. cond b (Some x) (find (has_id r.id.0) rs)) (eq-eqb x.id.0 r.id.0 (ap (λ (y : Region). y.id.0) same)) ∙ ap Some same
found_by_number r (x ∷ rs) apart (inr later) =
    let differ : x.id.0 ≢ r.id.0 = pairs_head (λ (a b : Region). a.id.0 ≢ b.id.0) x rs apart r later in
    let fails : has_id r.id.0 x ≡ false = grind (arith, rules, differ) in
    ap (λ b. cond b (Some x) (find (has_id r.id.0) rs)) fails ∙ found_by_number r rs (pairs_tail (λ (a b : Region). a.id.0 ≢ b.id.0) x rs apart) later

pub started_found : (k : Kernel) (p g : ℕ) (r : Region) → IsSettled k → find (starts_at g) (spaces.regions_of p k.spaces) ≡ Some r → find (has_id r.id.0) (spaces.regions_of p k.spaces) ≡ Some r
started_found k p g r s e = found_by_number r (spaces.regions_of p k.spaces) (s.numbered.each p) (find_has (starts_at g) (spaces.regions_of p k.spaces) r e).0

module _ (laws : RemovalLaws) (k new : Kernel) (p g : ℕ) (r : Region) (good : IsGood k) (accepted : refuse (outline k) (Unmap p g) ≡ None) (found : find (starts_at g) (spaces.regions_of p k.spaces) ≡ Some r) (x : RemovesRegion p r k new) where
  settled : IsSettled k
  settled = laws.settled k good

  is_removed : (a : Bytes) → remove_found (state_of k a) (region_from (state_of k a) p g) ≡ remove (state_of k a) (region_view a.seen.entry_bytes r)
  is_removed a = ap (remove_found (state_of k a)) (region_from_view k a p g ∙ ap (option_map (region_view a.seen.entry_bytes)) found)

  steps : (a b : Bytes) → ShowsRemoval r k a b → Steps (state_of k a) (Unmap p g) (state_of new b) reply.Okay
  steps a b shows = record { state = laws.state p r k new a b x settled shows ∙ ap tidy (sym (is_removed a)); reply_is = refl }

  same_config : new.config ≡ k.config
  same_config = ap (λ (z : Kernel). z.config) x.left

  -- what the event's contract says
  pub unmaps : IsServedPaged k (Unmap p g) new reply.Okay
  unmaps = record {
    good = laws.good new (laws.settles p r k new x settled) (laws.orderly (outline k) (outline new) (Unmap p g) reply.Okay refl accepted
        (subst (λ n. Steps (outline k) (Unmap p g) (state_of new (no_bytes n)) reply.Okay) (sym (ap (λ c. c.page) same_config)) (steps (no_bytes k.config.page) (no_bytes k.config.page) (laws.outlines r k)))
        good.orderly);
    step = λ slots rests sents paged. steps (bytes_over k.memory slots rests sents) (bytes_over new.memory slots rests sents) (laws.shows p r k new slots rests sents x settled paged);
    kept = laws.keeps p r k new x settled;
    config = same_config;
    unfailed = refl;
    meters = ap (λ (t : FrameTable). t.meters) x.object.frames;
    landed = ap (λ (t : FrameTable). t.landed) x.object.frames;
  }
