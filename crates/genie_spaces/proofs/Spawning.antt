-- A new process.
use Rattle.std.proofs.Common.{◌≡◌, ℕ, ◌+◌, ◌<◌, ◌≤◌, false, [], ◌∷◌, ◌++◌, refl, sym, ap, subst, arith, rules, ◌∙◌, map, length, length-set}
use Rattle.std.specs.Prelude.{Option, Some, None, is_some, nat_lt, count_by}
use Rattle.genie_base.specs.declared.event.Event.TheVariants.{Spawn}
use Rattle.genie_base.specs.declared.refusal.Refusal.TheVariants as cause
use Rattle.genie_base.specs.declared.reply.Reply.TheVariants as reply
use Rattle.genie_hiding.specs.Hidden.{is_of}
use Rattle.genie_space.specs.Spaces.{is_alive}
use Rattle.genie_model.specs.Lemmas.Causes.{first_none}
use Rattle.genie_model.specs.Refusing.{refuse}
use Rattle.genie_model.specs.Step.{accept}
use Rattle.genie_model.specs.Tables.{entry}
use Rattle.genie_kernel.specs.declared.kernel.Kernel.{Kernel}
use Rattle.genie_kernel.specs.Backed.{AreBacked, AreGuarded, hidden_region}
use Rattle.genie_kernel.specs.Good.{IsGood}
use Rattle.genie_kernel.specs.Held.{AreHeldPages}
use Rattle.genie_kernel.specs.Orphans.{orphans_view}
use Rattle.genie_kernel.specs.Regions.{owned_regions}
use Rattle.genie_kernel.specs.Steps.{StaysOrderly, bytes_over}
use Rattle.genie_kernel.specs.View.{Bytes, state_of, outline, no_bytes}
use Rattle.genie_kernel.specs.Lemmas.Processes.{processes_set, alive_view, owned_spawned, regions_spawned}
use Rattle.genie_kernel.specs.Lemmas.Tidying.{tidy_orphans}
use Rattle.genie_spaces.specs.Serving.{IsServed}
use Rattle.genie_spaces.specs.Tables.{spawned}
use Rattle.genie_spaces.proofs.Keeping.{kept_all}

pub record MaySpawn (k : Kernel) (p : ℕ) : Type 0 where
  pub number : p < 16
  pub new : is_alive p k.spaces ≡ false

pub may_spawn : (k : Kernel) (p : ℕ) → refuse (outline k) (Spawn p) ≡ None → MaySpawn k p
may_spawn k p h =
    let first = first_none (nat_lt 15 p, cause.Proc) ((is_some (entry (outline k).processes p), cause.Exists) ∷ []) h in
    let second = first_none (is_some (entry (outline k).processes p), cause.Exists) [] first.1 in
    record {
      number = grind (arith, rules, first.0);
      new = sym (alive_view (no_bytes k.config.page).seen.entry_bytes k.spaces.processes k.queues p) ∙ second.0;
    }

gone : {X : Type 0} (o : Option X) → is_some o ≡ false → o ≡ None
gone None e = refl
gone (Some x) e = absurd (cc)

spawn_state : (k : Kernel) (b : Bytes) (p : ℕ) → p < length k.queues → entry k.spaces.processes p ≡ None → state_of (spawned k p) b ≡ (accept (state_of k b) (Spawn p)).0
spawn_state k b p l e =
    let same = ap (λ rs. orphans_view k.config.page b.seen.kept_bytes rs k.transfers) (owned_spawned k.spaces.processes p e) ∙ sym (tidy_orphans k.config.page b.seen.kept_bytes k.devices k.pools (owned_regions k.spaces.processes) k.transfers) in
    λ i. record (state_of k b) {
      processes = processes_set b.seen.entry_bytes k.spaces.processes k.queues p (Some []) [] l i;
      orphans = same i;
    }

spawn_good : StaysOrderly → (k : Kernel) (p : ℕ) → IsGood k → refuse (outline k) (Spawn p) ≡ None → IsGood (spawned k p)
spawn_good law k p g h =
    let may = may_spawn k p h in
    let none : entry k.spaces.processes p ≡ None = gone _ may.new in
    let same = owned_spawned k.spaces.processes p none in
    record {
      fits = g.fits;
      sized = g.sized;
      spaced = record { page = g.spaced.page; processes = length-set k.spaces.processes p (Some []) ∙ g.spaced.processes; queue_places = length-set k.queues p [] ∙ g.spaced.queue_places };
      equipped = g.equipped;
      orderly = law (outline k) (outline (spawned k p)) (Spawn p) reply.Okay refl h (record { state = spawn_state k (no_bytes k.config.page) p (omega (arith, may.number, g.spaced.queue_places)) none; reply_is = refl }) g.orderly;
      sound = g.sound;
      cached = g.cached;
      few = record { process = g.few.process; few = λ pid. subst (λ rs. length rs + count_by (is_of pid) k.hidden ≤ 32) (sym (regions_spawned k.spaces.processes p pid none)) (g.few.few pid) };
      backed = subst (λ rs. AreBacked k.memory.objects (rs ++ map hidden_region k.hidden)) (sym same) g.backed;
      guarded = subst (AreGuarded k.memory.objects) (sym same) g.guarded;
      counted = g.counted;
      owners = g.owners;
      held = subst (λ rs. AreHeldPages k.config.page k.memory rs k.transfers) (sym same) g.held;
      planned = g.planned;
      fitting = g.fitting;
      posted = g.posted;
      sending = g.sending;
      receiving = g.receiving;
      arrived = g.arrived;
    }

served : StaysOrderly → (k : Kernel) (p : ℕ) → IsGood k → refuse (outline k) (Spawn p) ≡ None → IsServed k (Spawn p) (spawned k p) reply.Okay
served law k p g h =
    let may = may_spawn k p h in
    let kept = kept_all k g in
    record {
      good = spawn_good law k p g h;
      step = λ slots rests sents. record { state = spawn_state k (bytes_over k.memory slots rests sents) p (omega (arith, may.number, g.spaced.queue_places)) (gone _ may.new); reply_is = refl };
      kept = record { lent = λ n f t u is. kept.lent n f t u (record { was = is.was; is = is.is }); pooled = kept.pooled; fresh = λ n f t u is. kept.fresh n f t u (record { was = is.was; is = is.is }) };
      config = refl;
      unfailed = refl;
      meters = refl;
      landed = refl;
    }

-- what the event's contract says
pub spawns : StaysOrderly → (k new : Kernel) (p : ℕ) → new ≡ spawned k p → IsGood k → refuse (outline k) (Spawn p) ≡ None → IsServed k (Spawn p) new reply.Okay
spawns law k new p is g h = subst (λ n. IsServed k (Spawn p) n reply.Okay) (sym is) (served law k p g h)
