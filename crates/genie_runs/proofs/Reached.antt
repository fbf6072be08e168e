-- The laws of the flat machine reach the runs of scripts.
use Rattle.std.proofs.Common.{◌≡◌, ℕ, List, [], ◌∷◌, ◌++◌, sym, subst}
use Rattle.std.specs.Prelude.{IsTrue, All}
use Rattle.std.proofs.lemmas.List.Elements.{All-map, All-nil, All-cons, All-head, All-tail}
use Rattle.genie_base.specs.Configs.{Config, Fits}
use Rattle.genie_base.specs.Events.{is_whole}
use Rattle.genie_base.specs.declared.event.Event.{Event}
use Rattle.genie_base.specs.declared.reply.Reply.{Reply}
use Rattle.genie_laws.specs.Integrity.{OutputsKeepIntegrity, OutputsAreSentWhole, WeakTransfersKeepBytes}
use Rattle.genie_laws.specs.Streams.{InputsGetRecords, DonesStoreTaken, LandedBytesAreNext}
use Rattle.genie_orderly.specs.Steps.{RunsStayOrderly}
use Rattle.genie_model.specs.State.{State, boot}
use Rattle.genie_model.specs.Step.{Follows}
use Rattle.genie_script.specs.Judge.{Numbered, events_from}
use Rattle.genie_script.specs.Limits.{ScriptsKeepLimits}
use Rattle.genie_replay.specs.Outcome.{events_of}
use Rattle.genie_runs.specs.Reached.{IsSound, IsSoundRun, RunsAreSound}

-- the first ones and the others, of elements that are all so
pub parts : {X : Type 0} (P : X → Type 0) (xs ys : List X) → All P (xs ++ ys) → All P xs × All P ys
parts P [] ys h = (All-nil P, h)
parts P (x ∷ xs) ys h =
    let rest = parts P xs ys (All-tail P x (xs ++ ys) h) in
    (All-cons P x xs (All-head P x (xs ++ ys) h) rest.0, rest.1)

abbrev pub IsWhole : Event → Type 0
IsWhole e = IsTrue (is_whole e)

pub sound_at : RunsStayOrderly → OutputsKeepIntegrity → OutputsAreSentWhole → InputsGetRecords → DonesStoreTaken → LandedBytesAreNext → (c : Config) (inputs : ℕ → List ℕ) (start : State) (es : List Event) (rs : List Reply) (mid : State) → start ≡ boot c inputs → Fits c → All IsWhole es → Follows start es rs mid → IsSound inputs start es rs mid
sound_at stay keep send take store lands c inputs start es rs mid boots fits whole =
    subst (λ s. Follows s es rs mid → IsSound inputs s es rs mid) (sym boots) (λ f. record { orderly = stay c inputs es rs mid fits whole f; sent = λ d. keep c inputs es rs mid d fits whole f; whole = λ d. send c inputs es rs mid d fits whole f; taken = λ d. take c inputs es rs mid d fits whole f; stored = store mid (stay c inputs es rs mid fits whole f); landed = lands mid (stay c inputs es rs mid fits whole f) })

pub sound : RunsStayOrderly → OutputsKeepIntegrity → OutputsAreSentWhole → InputsGetRecords → DonesStoreTaken → LandedBytesAreNext → WeakTransfersKeepBytes → (c : Config) (inputs : ℕ → List ℕ) (start : State) (events : List Numbered) (replies : List Reply) → start ≡ boot c inputs → Fits c → All (λ (n : Numbered). IsWhole n.1) events → IsSoundRun inputs start (events_of events) replies
sound stay keep send take store lands weak c inputs start events replies boots fits whole es fs left rs qs rest mid late split cut f g =
    let both = parts IsWhole es fs (parts IsWhole (es ++ fs) left (subst (All IsWhole) split (All-map IsWhole (λ (n : Numbered). n.1) events whole))).0 in
    let here = sound_at stay keep send take store lands c inputs start es rs mid boots fits both.0 f in
    (here, λ n k x t u p q. weak mid fs qs late n k x t u here.orderly both.1 g p q)

pub runs_are_sound : RunsStayOrderly → OutputsKeepIntegrity → OutputsAreSentWhole → InputsGetRecords → DonesStoreTaken → LandedBytesAreNext → WeakTransfersKeepBytes → ScriptsKeepLimits → RunsAreSound
runs_are_sound stay keep send take store lands weak limits script text part before lines old new e =
    let kept = limits script text part before lines e in
    record {
      all = λ r. sound stay keep send take store lands weak part.config r.begins.inputs r.start (events_from before lines) r.run.replies r.begins.boots kept.fits kept.whole;
      in_part = λ r. sound stay keep send take store lands weak part.config r.begins.inputs r.start r.done r.run.replies r.begins.boots kept.fits (parts (λ (n : Numbered). IsWhole n.1) r.done r.left (subst (All (λ (n : Numbered). IsWhole n.1)) r.split kept.whole)).0;
    }
