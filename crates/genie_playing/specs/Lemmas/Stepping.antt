-- Runs of events, one event longer; and what they come to where bytes are told.
use Rattle.std.proofs.Common.{◌≡◌, List, [], ◌∷◌, ◌++◌, refl, sym, ap, ◌∙◌, arith, subst}
use Rattle.std.specs.Prelude.{Option, Some, None}
use Rattle.genie_base.specs.declared.event.Event.{Event}
use Rattle.genie_base.specs.declared.reply.Reply.{Reply}
use Rattle.genie_base.specs.Events.{mark_of}
use Rattle.genie_host.specs.Host.{HostView}
use Rattle.genie_kernel.specs.declared.kernel.Kernel.{Kernel}
use Rattle.genie_kernel.specs.Steps.{StepsTold}
use Rattle.genie_model.specs.State.{State}
use Rattle.genie_model.specs.Step.{step}
use Rattle.genie_replay.specs.Plays.{LaterFaults, OnlyRun}
use Rattle.genie_playing.specs.Costs.{Answer, replies_of}
use Rattle.genie_playing.specs.Moments.{Between, FollowsTold, Moment, Steps, StepsTo, shown}
use Rattle.genie_playing.specs.Lemmas.Showing.{IsApart, shown_between}

pub only_same : (v : HostView) → OnlyRun v v
only_same v = record { others = λ k z o. refl; tried = refl; opened = refl }

pub later_trans : (u v w : HostView) → LaterFaults u v → LaterFaults v w → LaterFaults u w
later_trans u v w a b = λ k. let x = a k in let y = b k in omega (arith, x, y)

pub between_same : (m : Moment) → Between m m
between_same m = record { kernel = refl; host = only_same m.host; later = λ k. omega arith; store = refl }

pub between_trans : (a b c : Moment) → Between a b → Between b c → Between a c
between_trans a b c x y = record {
  kernel = y.kernel ∙ x.kernel;
  host = record { others = λ k z o. y.host.others k z o ∙ x.host.others k z o; tried = y.host.tried ∙ x.host.tried; opened = y.host.opened ∙ x.host.opened };
  later = later_trans a.host b.host c.host x.later y.later;
  store = y.store ∙ x.store;
}

-- one event more
pub steps_more : (start : Moment) (es : List Event) (answers : List Answer) (now : Moment) (e : Event) (a : Answer) (after new : Moment) → Steps start es answers now → StepsTo now e a after → Between after new → Steps start (es ++ e ∷ []) (answers ++ a ∷ []) new
steps_more start [] [] now e a after new s steps b = (now, after, s, steps, b)
steps_more start [] (x ∷ answers) now e a after new s steps b = absurd s
steps_more start (d ∷ es) [] now e a after new s steps b = absurd s
steps_more start (d ∷ es) (x ∷ answers) now e a after new s steps b = (s.0, s.1, s.2, s.3, steps_more s.1 es answers now e a after new s.4 steps b)

-- and no event more
pub steps_on : (start : Moment) (es : List Event) (answers : List Answer) (now new : Moment) → Steps start es answers now → Between now new → Steps start es answers new
steps_on start [] [] now new s b = between_trans start now new s b
steps_on start [] (x ∷ answers) now new s b = absurd s
steps_on start (d ∷ es) [] now new s b = absurd s
steps_on start (d ∷ es) (x ∷ answers) now new s b = (s.0, s.1, s.2, s.3, steps_on s.1 es answers now new s.4 b)

follows_none : (o p : Option State) → p ≡ o → FollowsTold o [] [] p
follows_none None p e = tt
follows_none (Some s) p e = (s, refl, e)

follows_cons : (o b a l : Option State) (e : Event) (es : List Event) (r : Reply) (rs : List Reply) → b ≡ o → StepsTold b e a r → FollowsTold a es rs l → FollowsTold o (e ∷ es) (r ∷ rs) l
follows_cons None b a l e es r rs is s f = tt
follows_cons (Some x) b a l e es r rs is s f =
    let one : StepsTold (Some x) e a r = rw is at s in
    let more : FollowsTold (Some (step x e (mark_of r)).0) es rs l = rw one.0 at f in
    (more.0, (sym one.1, more.1), more.2)

-- the flat machine steps as the kernel does
pub steps_follow : (start : Moment) (es : List Event) (answers : List Answer) (last : Moment) → IsApart start.kernel.config → Steps start es answers last → FollowsTold (shown start) es (replies_of answers) (shown last)
steps_follow start [] [] last apart s = follows_none (shown start) (shown last) (shown_between start last apart s)
steps_follow start [] (a ∷ answers) last apart s = absurd s
steps_follow start (e ∷ es) [] last apart s = absurd s
steps_follow start (e ∷ es) (a ∷ answers) last apart s =
    let same : s.1.kernel.config ≡ start.kernel.config = s.3.serves.config ∙ ap (λ (k : Kernel). k.config) s.2.kernel in
    follows_cons (shown start) (shown s.0) (shown s.1) (shown last) e es a.reply (replies_of answers) (shown_between start s.0 apart s.2) s.3.serves.step (steps_follow s.1 es answers last (subst IsApart (sym same) apart) s.4)
