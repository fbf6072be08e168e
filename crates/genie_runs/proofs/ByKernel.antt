-- The laws of the flat machine reach the runs of scripts by the kernel.
use Rattle.std.proofs.Common.{◌≡◌, ℕ, List, [], refl, ap, ◌∙◌, subst}
use Rattle.std.specs.Prelude.{All}
use Rattle.std.proofs.lemmas.List.Elements.{All-map}
use Rattle.genie_base.specs.declared.reply.Reply.{Reply}
use Rattle.genie_host.specs.Host.{HostView}
use Rattle.genie_store.specs.StoreView.{StoreView}
use Rattle.genie_laws.specs.Integrity.{OutputsKeepIntegrity, OutputsAreSentWhole, WeakTransfersKeepBytes}
use Rattle.genie_laws.specs.Laws.{RunsAlike, with_thresholds}
use Rattle.genie_laws.specs.Streams.{InputsGetRecords, DonesStoreTaken, LandedBytesAreNext}
use Rattle.genie_model.specs.Sending.{sent_of}
use Rattle.genie_model.specs.State.{State, boot}
use Rattle.genie_model.specs.Step.{Follows}
use Rattle.genie_kernel.specs.declared.kernel.Kernel.{Kernel}
use Rattle.genie_orderly.specs.Steps.{RunsStayOrderly}
use Rattle.genie_script.specs.Judge.{Numbered, events_from}
use Rattle.genie_script.specs.Limits.{ScriptsKeepLimits}
use Rattle.genie_replay.specs.Outcome.{events_of}
use Rattle.genie_running.specs.Outcome.{IsFlatRun}
use Rattle.genie_runs.specs.ByKernel.{IsSoundByKernel, KernelRunsAlike, KernelRunsAreSound, TextsRunAlike, first_of, inputs_of}
use Rattle.genie_runs.specs.Texts.{ScriptsSayAlike}
use Rattle.genie_runs.proofs.Alike.{other_boot, same_inputs}
use Rattle.genie_runs.proofs.Reached.{IsWhole, parts, sound, sound_at}

pub kernel_runs_alike : RunsAlike → KernelRunsAlike
kernel_runs_alike law p q events others replies changed k l old new before after w x a b c same devices levels =
    let out : ℕ = q.config.copy_out in
    let back : ℕ = q.config.reverse_copy_out in
    let start : first_of q before ≡ with_thresholds out back (first_of p old) = ap (λ ds. boot q.config (inputs_of (record p { devices = ds }) before)) devices ∙ ap (boot q.config) (same_inputs old.names before.names (λ _. []) p.devices c.inputs) ∙ other_boot p.config q.config (inputs_of p old) same in
    let follows : Follows (with_thresholds out back (first_of p old)) others changed b.last = subst (λ s. Follows s others changed b.last) start b.follows in
    let alike = law out back (first_of p old) events others replies changed a.last b.last levels a.follows follows c.plain c.other_plain in
    record { same = alike.0; sent = λ d. ap (λ (s : State). sent_of s d) alike.1 }

pub texts_run_alike : ScriptsSayAlike → KernelRunsAlike → TextsRunAlike
texts_run_alike say law script renamed text other p q n m lines others replies changed k l old new before after w x alike first second a b c =
    let said = say script renamed text other p q n m lines others alike first second in
    law p q (events_of (events_from n lines)) (events_of (events_from m others)) replies changed k l old new before after w x a b c said.config said.devices said.events

pub kernel_runs_are_sound : RunsStayOrderly → OutputsKeepIntegrity → OutputsAreSentWhole → InputsGetRecords → DonesStoreTaken → LandedBytesAreNext → WeakTransfersKeepBytes → ScriptsKeepLimits → KernelRunsAreSound
kernel_runs_are_sound stay keep send take store lands weak limits script text p before lines e =
    let kept = limits script text p before lines e in
    let run : (done : List Numbered) → All (λ (n : Numbered). IsWhole n.1) done → (replies : List Reply) (k : Kernel) (old new : HostView) (w : StoreView) (r : IsFlatRun p (events_of done) replies k old new w) → IsSoundByKernel r = λ done whole replies k old new w r. record {
      each = sound stay keep send take store lands weak p.config (inputs_of p old) (first_of p old) done replies refl kept.fits whole;
      last = sound_at stay keep send take store lands p.config (inputs_of p old) (first_of p old) (events_of done) replies r.last refl kept.fits (All-map IsWhole (λ (n : Numbered). n.1) done whole) r.follows;
    } in
    record {
      all = run (events_from before lines) kept.whole;
      in_part = λ done left replies k old new w split. run done (parts (λ (n : Numbered). IsWhole n.1) done left (subst (All (λ (n : Numbered). IsWhole n.1)) split kept.whole)).0 replies k old new w;
    }
