-- The events that make no region: what becomes of the tables of processes.
use Rattle.std.proofs.Common.{◌≡◌, ℕ, zero, suc, ◌+◌, ◌≤◌, true, false, not, List, [], ◌∷◌, ◌++◌, length, map, refl, ◌∙◌, arith, length-set}
use Rattle.std.specs.Prelude.{Option, Some, None, All, cond, sum_by, slice_set, slice_index_or, replicate, ◌==◌}
use Rattle.std.proofs.lemmas.List.{length-map, length-replicate}
use Rattle.std.proofs.lemmas.List.Elements.{All-map, All-weaker, All-set}
use Rattle.std.proofs.lemmas.List.Sums.{sum_by-cons}
use Rattle.genie_base.specs.Lemmas.Overlaid.{length-overlaid}
use Rattle.genie_base.specs.Configs.{Config}
use Rattle.genie_base.specs.declared.region.RegionState.{RegionState}
use Rattle.genie_base.specs.declared.region.RegionState.TheVariants.{Out, In}
use Rattle.genie_orderly.specs.Orderly.{AreApart}
use Rattle.genie_model.specs.State.{State, Region, Process}
use Rattle.genie_model.specs.Regions.{regions_of, region_pages, is_region, has_number, change_process, changed, changed_in, change_region, with_bytes, with_state, put}
use Rattle.genie_model.specs.Space.{spawned, without_region, remove, exit}
use Rattle.genie_model.specs.Outputs.{moved_out_of, moved_out}
use Rattle.genie_model.specs.Inputs.{moved_in_of, moved_in}
use Rattle.genie_model.specs.Ending.{filled}
use Rattle.genie_orderly.proofs.Regions.Apart.{SameShape, same_shape, Lessens, none_lessens, reshaped, fewer, mapped_sum}

-- as many processes, apart where these were, of no more pages in all
pub record Shrinks (old new : List (Option Process)) : Type 0 where
  pub places : length new ≡ length old
  pub apart : (page : ℕ) → All (λ (p : Option Process). AreApart page (regions_of p)) old → All (λ (p : Option Process). AreApart page (regions_of p)) new
  pub pages : sum_by region_pages new ≤ sum_by region_pages old

pub record KeepsTable (c : Config) (old : List (Option Process)) (d : Config) (new : List (Option Process)) : Type 0 where
  pub config : d ≡ c
  pub table : Shrinks old new

-- the configuration stays, and no region comes
abbrev pub Keeps : State → State → Type 0
Keeps s t = KeepsTable s.config s.processes t.config t.processes

pub still : (s : State) → Keeps s s
still s = record { config = refl; table = record { places = refl; apart = λ page h. h; pages = omega arith } }

pub chained : {b c d : Config} {first second third : List (Option Process)} → KeepsTable b first c second → KeepsTable c second d third → KeepsTable b first d third
chained k l = record { config = l.config ∙ k.config; table = record { places = l.table.places ∙ k.table.places; apart = λ page h. l.table.apart page (k.table.apart page h); pages = omega (arith, k.table.pages, l.table.pages) } }

in_process : (f : Process → Process) → ((p : Process) → Lessens p.regions (f p).regions) → (p : Option Process) → Lessens (regions_of p) (regions_of (change_process f p))
in_process f less None = none_lessens []
in_process f less (Some p) = less p

in_each : (f : Process → Process) → ((p : Process) → Lessens p.regions (f p).regions) → (processes : List (Option Process)) → Shrinks processes (map (change_process f) processes)
in_each f less processes = record {
  places = length-map processes (change_process f);
  apart = λ page h. All-map (λ (p : Option Process). AreApart page (regions_of p)) (change_process f) processes (All-weaker (λ (p : Option Process). AreApart page (regions_of p)) (λ (p : Option Process). AreApart page (regions_of (change_process f p))) (λ p. (in_process f less p).apart page) processes h);
  pages = mapped_sum region_pages (change_process f) (λ p. (in_process f less p).pages) processes;
}

-- another number at one place adds at most m
pub set_sum : {X : Type 0} (f : X → ℕ) (y d : X) (m : ℕ) (xs : List X) (n : ℕ) → f y ≤ f (slice_index_or xs n d) + m → sum_by f (slice_set xs n y) ≤ sum_by f xs + m
set_sum f y d m [] n le = omega arith
set_sum f y d m (x ∷ xs) zero le = omega (arith, sum_by-cons f y xs, sum_by-cons f x xs)
set_sum f y d m (x ∷ xs) (suc n) le = let rest = set_sum f y d m xs n le in omega (arith, sum_by-cons f x (slice_set xs n y), sum_by-cons f x xs)

-- at one place there is nothing, or a process without a region
emptied : (processes : List (Option Process)) (n : ℕ) (p : Option Process) → regions_of p ≡ [] → Shrinks processes (slice_set processes n p)
emptied processes n p none =
    let nothing : region_pages p ≡ 0 = rw none refl in
    let sums = set_sum region_pages p None 0 processes n (omega (arith, nothing)) in
    record {
      places = length-set processes n p;
      apart = λ page h. All-set (λ (q : Option Process). AreApart page (regions_of q)) processes n p (rw none (record { few = omega arith; order = λ i j d l m. absurd (omega arith); each = λ k d l. absurd (omega arith) })) h;
      pages = omega (arith, sums);
    }

pub spawned_keeps : (s : State) (p : ℕ) → Keeps s (spawned s p)
spawned_keeps s p = record { config = refl; table = emptied s.processes p (Some (record { queue = []; regions = [] })) refl }

pub exit_keeps : (s : State) (p : ℕ) → Keeps s (exit s p).0
exit_keeps s p = record { config = refl; table = emptied s.processes p None refl }

pub remove_keeps : (s : State) (r : Region) → Keeps s (remove s r)
remove_keeps s r = record { config = refl; table = in_each (without_region r.number) (λ p. fewer (λ q. not (is_region r.number q)) p.regions) s.processes }

changed_shape : (k : ℕ) (f : Region → Region) → ((r : Region) → SameShape r (f r)) → (r : Region) → SameShape r (changed k f r)
changed_shape k f same r = elim (r.number == k) as (λ b. SameShape r (cond b (f r) r)) [ true ↦ same r | false ↦ same_shape r ]

pub change_keeps : (s : State) (k : ℕ) (f : Region → Region) → ((r : Region) → SameShape r (f r)) → Keeps s (change_region s k f)
change_keeps s k f same = record { config = refl; table = in_each (changed_in k f) (λ p. reshaped (changed k f) (changed_shape k f same) p.regions) s.processes }

pub state_shape : (state : RegionState) (r : Region) → SameShape r (with_state state r)
state_shape state r = record { start = refl; pages = refl; area = refl; bytes = refl }

pub filled_shape : (bytes : List ℕ) (r : Region) → SameShape r (filled bytes r)
filled_shape bytes r = record { start = refl; pages = refl; area = refl; bytes = length-overlaid 0 bytes (replicate (length r.bytes) 0) ∙ length-replicate (length r.bytes) 0 }

pub put_keeps : (s : State) (k x : ℕ) (new : List ℕ) → Keeps s (put s k x new)
put_keeps s k x new = change_keeps s k (with_bytes x new) (λ r. record { start = refl; pages = refl; area = refl; bytes = length-overlaid x new r.bytes })

out_lessens : (k : ℕ) (p : Process) → Lessens p.regions (moved_out_of k p).regions
out_lessens k p = elim (has_number k (Some p)) as (λ b. Lessens p.regions (cond b (record { queue = p.queue ++ k ∷ []; regions = map (changed k (with_state Out)) p.regions }) p).regions)
    [ true ↦ reshaped (changed k (with_state Out)) (changed_shape k (with_state Out) (state_shape Out)) p.regions | false ↦ record { apart = λ page h. h; pages = omega arith } ]

pub moved_out_keeps : (s : State) (k : ℕ) → Keeps s (moved_out s k)
moved_out_keeps s k = record { config = refl; table = in_each (moved_out_of k) (out_lessens k) s.processes }

pub moved_in_keeps : (s : State) (k : ℕ) → Keeps s (moved_in s k)
moved_in_keeps s k = record { config = refl; table = in_each (moved_in_of k) (λ p. reshaped (changed k (with_state In)) (changed_shape k (with_state In) (state_shape In)) p.regions) s.processes }
