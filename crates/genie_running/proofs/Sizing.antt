-- A kernel that was booted, over a store that is sized for it.
use Rattle.std.proofs.Common.{◌≡◌, ℕ, ◌<◌, ◌^◌, [], refl, ap, sym, ◌∙◌, arith}
use Rattle.std.specs.Prelude.{is_some}
use Rattle.genie_base.specs.Configs.{Fits, config_of, pool_of}
use Rattle.genie_base.specs.declared.config.Config.{Config}
use Rattle.genie_store.specs.StoreView.{StoreView}
use Rattle.genie_object.specs.Costs.{AreBelow}
use Rattle.genie_model.specs.State.{State}
use Rattle.genie_kernel.specs.declared.kernel.Kernel.{Kernel}
use Rattle.genie_kernel.specs.Booting.{BootsAs, only_taken}
use Rattle.genie_kernel.specs.Good.{IsGood}
use Rattle.genie_playing.specs.Moments.{IsFresh}
use Rattle.genie_running.specs.Booted.{IsBooted}

few_taken : (n : ℕ) → n < 2 ^ 36 → AreBelow (2 ^ 36) (only_taken n)
few_taken n low = record { read = omega arith; written = omega arith; copied = omega arith; zeroed = omega arith; puts = omega arith; gets = omega arith; taken = low }

first_number : (c : Config) (k : Kernel) → BootsAs c k → k.next ≡ 1
first_number c k boots = ap (λ (s : State). s.next) (boots (record { seen = record { entry_bytes = λ o i. []; kept_bytes = λ f. [] }; rests = λ d. []; sents = λ d. [] }) (λ d. refl))

fresh : (c : Config) (k : Kernel) → Fits (config_of c) → BootsAs c k → k.memory.frames.meters ≡ only_taken (pool_of (config_of c).devices) → k.memory.frames.landed ≡ 0 → IsFresh k
fresh c k fits boots meters landed = record {
  meters = let pool = fits.pool in let high = fits.frames_high in rw meters (few_taken (pool_of (config_of c).devices) (omega (arith, pool, high)));
  landed = omega (arith, landed);
  numbers = first_number c k boots;
}

pub booted : (c : Config) (k : Kernel) (v w : StoreView) → Fits (config_of c) → IsGood k → k.config ≡ c → BootsAs c k → k.memory.frames.meters ≡ only_taken (pool_of (config_of c).devices) → k.memory.frames.landed ≡ 0
    → w.count ≡ c.slots → w.page ≡ c.page → is_some w.slots ≡ is_some v.slots → w.faults ≡ v.faults → IsBooted c k v w
booted c k v w fits good is boots meters landed count page told faults = record {
  good = good;
  config = is;
  boots = boots;
  fresh = fresh c k fits boots meters landed;
  meters = meters;
  sized = record {
    count = count ∙ sym (ap (λ (q : Config). q.slots) is) ∙ sym good.sized.slots;
    page = page ∙ sym (ap (λ (q : Config). q.page) is) ∙ sym good.sized.page;
  };
  some = let low = fits.slots_low in omega (arith, count, low);
  told = told;
  faults = faults;
}
