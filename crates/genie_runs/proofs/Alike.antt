-- Scripts of other levels and thresholds run alike.
use Rattle.std.proofs.Common.{◌≡◌, ℕ, List, [], ◌∷◌, refl, sym, ap, ◌∙◌}
use Rattle.std.specs.Prelude.{Option, Some, None, ◌==◌, if◌then◌else◌}
use Rattle.genie_base.specs.Configs.{Config}
use Rattle.genie_model.specs.Sending.{sent_of}
use Rattle.genie_laws.specs.Laws.{RunsAlike, with_thresholds}
use Rattle.genie_model.specs.State.{State, boot}
use Rattle.genie_script.specs.declared.line.DeviceLine.{DeviceLine}
use Rattle.genie_runs.specs.Alike.{SameButThresholds, ScriptsRunAlike}
use Rattle.genie_replay.specs.Inputs.{AreTold, AreToldAlike, IsTold, IsToldAlike, inputs_from, told_by, with_file}
use Rattle.genie_replay.specs.Outcome.{events_of}

pub other_boot : (c d : Config) (inputs : ℕ → List ℕ) → SameButThresholds c d → boot d inputs ≡ with_thresholds d.copy_out d.reverse_copy_out (boot c inputs)
other_boot c d inputs same = ap (λ (x : Config). boot x inputs) same

-- the other host tells the inputs too
file_told : (names others : List ℕ → Option (List ℕ)) (o : Option (List ℕ)) → IsToldAlike names others o → IsTold names o → IsTold others o
file_told names others None alike told = tt
file_told names others (Some name) alike told = λ e. told (sym alike ∙ e)

files_told : (names others : List ℕ → Option (List ℕ)) (ds : List DeviceLine) → AreToldAlike names others ds → AreTold names ds → AreTold others ds
files_told names others [] alike told = tt
files_told names others (d ∷ ds) alike told = (file_told names others d.input alike.0 told.0, files_told names others ds alike.1 told.1)

-- and they are the same
same_file : (names others : List ℕ → Option (List ℕ)) (inputs : ℕ → List ℕ) (number : ℕ) (o : Option (List ℕ)) → IsToldAlike names others o → with_file others inputs number o ≡ with_file names inputs number o
same_file names others inputs number None alike = refl
same_file names others inputs number (Some name) alike = ap {B = ℕ → List ℕ} (λ (told : Option (List ℕ)) (k : ℕ). if k == number then told_by told else inputs k) alike

pub same_inputs : (names others : List ℕ → Option (List ℕ)) (inputs : ℕ → List ℕ) (ds : List DeviceLine) → AreToldAlike names others ds → inputs_from others inputs ds ≡ inputs_from names inputs ds
same_inputs names others inputs [] alike = refl
same_inputs names others inputs (d ∷ ds) alike = ap (λ f. inputs_from others f ds) (same_file names others inputs d.number d.input alike.0) ∙ same_inputs names others (with_file names inputs d.number d.input) ds alike.1

pub scripts_run_alike : RunsAlike → ScriptsRunAlike
scripts_run_alike law script other c d devices events others old new before after a b same levels told alike =
    let out : ℕ = d.copy_out in
    let back : ℕ = d.reverse_copy_out in
    let from : a.start ≡ boot c (inputs_from old.names (λ _. []) devices) = a.begins.told told in
    let there : b.start ≡ boot d (inputs_from before.names (λ _. []) devices) = b.begins.told (files_told old.names before.names devices alike told) in
    let start : b.start ≡ with_thresholds out back a.start = there ∙ ap (boot d) (same_inputs old.names before.names (λ _. []) devices alike) ∙ other_boot c d (inputs_from old.names (λ _. []) devices) same ∙ sym (ap (with_thresholds out back) from) in
    let both = law out back a.start (events_of events) (events_of others) a.run.replies b.run.replies a.run.last b.run.last levels a.run.follows (rw (sym start) b.run.follows) a.plain b.plain in
    record { replies = both.0; sent = λ k. ap (λ (s : State). sent_of s k) both.1 }
