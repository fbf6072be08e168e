-- What is lent for each transfer, with one less and with one more.
use Rattle.std.proofs.Common.{◌≡◌, ℕ, Bool, true, false, List, [], ◌∷◌, ◌++◌, get_or}
use Rattle.std.specs.Prelude.{Option}
use Rattle.genie_base.specs.declared.semantics.Direction.{Direction}
use Rattle.genie_base.specs.declared.semantics.Direction.TheVariants.{Outward, Inward}
use Rattle.genie_device.specs.Device.{DeviceView}
use Rattle.genie_frame.specs.declared.frame.Owner.{Owner}
use Rattle.genie_frame.specs.declared.frame.Owner.TheVariants.{Free, System}
use Rattle.genie_model.specs.Tables.{without, entry}
use Rattle.genie_kernel.specs.declared.transfer.Loans.{Loans}
use Rattle.genie_kernel.specs.declared.transfer.Transfer.{Transfer}
use Rattle.genie_kernel.specs.Calls.{is_strong_call}
use Rattle.genie_kernel.specs.Loans.{frames_of}
use Rattle.genie_kernel.specs.Planned.{ArePlanned, FitDevices, FitsDevice, Lends, LendsInput, LendsStrongly, is_early_device}
use Rattle.genie_changes.specs.Pending.{OwnFramesStay}
use Rattle.genie_changes.proofs.Lists.{all_less, all_more}

strongly_stay : (page : ℕ) (old new : List Owner) (early : Bool) (t : Transfer) (loans : Loans) → ((f : ℕ) → get_or old f Free ≡ System t.id.0 → get_or new f Free ≡ System t.id.0) → LendsStrongly page old early t loans → LendsStrongly page new early t loans
strongly_stay page old new false t loans stay h = h
strongly_stay page old new true t loans stay h = (h.0, record { own = λ k d l. stay (get_or (frames_of loans) k d) (h.1.own k d l); apart = h.1.apart })

input_stay : (page : ℕ) (old new : List Owner) (early : Bool) (t : Transfer) (strong : Bool) → ((f : ℕ) → get_or old f Free ≡ System t.id.0 → get_or new f Free ≡ System t.id.0) → LendsInput page old early t strong → LendsInput page new early t strong
input_stay page old new early t true stay h = strongly_stay page old new early t t.loans stay h
input_stay page old new early t false stay h = h

lends_stay : (page : ℕ) (old new : List Owner) (early : Bool) (t : Transfer) (d : Direction) → ((f : ℕ) → get_or old f Free ≡ System t.id.0 → get_or new f Free ≡ System t.id.0) → Lends page old early t d → Lends page new early t d
lends_stay page old new early t Outward stay h = h
lends_stay page old new early t Inward stay h = input_stay page old new early t (is_strong_call t) stay h

pub planned_stay : (page : ℕ) (old new : List Owner) (devices : List (Option DeviceView)) (ts : List Transfer) → OwnFramesStay old new ts → ArePlanned page old devices ts → ArePlanned page new devices ts
planned_stay page old new devices ts stay h = λ k d l. let t : Transfer = get_or ts k d in lends_stay page old new (is_early_device (entry devices t.dev)) t t.dir (stay k d l) (h k d l)

pub planned_less : (page : ℕ) (owners : List Owner) (devices : List (Option DeviceView)) (p : Transfer → Bool) (ts : List Transfer) → ArePlanned page owners devices ts → ArePlanned page owners devices (without p ts)
planned_less page owners devices p ts h = all_less (λ (t : Transfer). Lends page owners (is_early_device (entry devices t.dev)) t t.dir) p ts h

pub planned_more : (page : ℕ) (owners : List Owner) (devices : List (Option DeviceView)) (t : Transfer) (ts : List Transfer) → Lends page owners (is_early_device (entry devices t.dev)) t t.dir → ArePlanned page owners devices ts → ArePlanned page owners devices (ts ++ t ∷ [])
planned_more page owners devices t ts lends h = all_more (λ (u : Transfer). Lends page owners (is_early_device (entry devices u.dev)) u u.dir) t ts h lends

pub fitting_less : (devices : List (Option DeviceView)) (p : Transfer → Bool) (ts : List Transfer) → FitDevices devices ts → FitDevices devices (without p ts)
fitting_less devices p ts h = all_less (λ (t : Transfer). FitsDevice t.len (entry devices t.dev)) p ts h

pub fitting_more : (devices : List (Option DeviceView)) (t : Transfer) (ts : List Transfer) → FitsDevice t.len (entry devices t.dev) → FitDevices devices ts → FitDevices devices (ts ++ t ∷ [])
fitting_more devices t ts fits h = all_more (λ (u : Transfer). FitsDevice u.len (entry devices u.dev)) t ts h fits
