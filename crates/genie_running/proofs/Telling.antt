-- What the hosts and the stores tell at the boot, and at the end.
use Rattle.std.proofs.Common.{◌≡◌, ◌≢◌, ℕ, zero, suc, ◌+◌, List, [], ◌∷◌, length, map, refl, sym, ap, ◌∙◌, arith}
use Rattle.std.specs.Prelude.{Option, Some, None, IsSome, slice_set, ◌==◌, true, false}
use Rattle.std.specs.Option.{option_map}
use Rattle.std.specs.Io.KnownBytes.{Appends, Keeps}
use Rattle.std.proofs.lemmas.Bool.Decides.{nat_tests}
use Rattle.genie_base.specs.Configs.{config_of}
use Rattle.genie_base.specs.declared.config.DeviceConfig.{DeviceConfig as Device}
use Rattle.genie_base.specs.declared.config.Config.{Config}
use Rattle.genie_device.specs.Device.{DeviceView}
use Rattle.genie_host.specs.Host.{HostView, empty_told}
use Rattle.genie_store.specs.StoreView.{StoreView}
use Rattle.genie_input.specs.Pools.{PoolState}
use Rattle.genie_object.specs.Memory.{Seen, seen, seen_with}
use Rattle.genie_model.specs.Sending.{sent_by, sent_of}
use Rattle.genie_model.specs.State.{State, boot}
use Rattle.genie_model.specs.Tables.{entry}
use Rattle.genie_model.specs.Lemmas.Lists.{entry_set}
use Rattle.genie_kernel.specs.declared.kernel.Kernel.{Kernel}
use Rattle.genie_kernel.specs.Booting.{BootsAs}
use Rattle.genie_kernel.specs.Calls.{receiver}
use Rattle.genie_kernel.specs.Devices.{device_view}
use Rattle.genie_kernel.specs.Good.{IsGood}
use Rattle.genie_kernel.specs.Sizes.{IsEquipped}
use Rattle.genie_kernel.specs.Told.{told, told_at, by_number, input_at, output_at, rests_of}
use Rattle.genie_kernel.specs.View.{Bytes, bytes_with, state_of, view}
use Rattle.genie_kernel.specs.Lemmas.DeviceViews.{entry_view}
use Rattle.genie_script.specs.declared.line.DeviceLine.{DeviceLine}
use Rattle.genie_replay.specs.Files.{HoldsOfFile, HoldsOfInput, HoldsOfInputs, HoldsOfOutputs, IsFresh, IsFreshFor, openings_of}
use Rattle.genie_replay.specs.Inputs.{AreTold, IsTold, inputs_from, told_by, with_file}
use Rattle.genie_replay.specs.Outcome.{HasAll}
use Rattle.genie_replay.specs.Places.{FindPlaces}
use Rattle.genie_replay.specs.Lemmas.Filing.{outputs_map}
use Rattle.genie_running.specs.Wiring.{device_at, no_wires, wired_from}
use Rattle.genie_running.proofs.Wires.{FindsPlace, entry_put, find_rest, finds_place, nothing_at, unwired, wired_outputs}

-- the files of a table, where each is told
pub record AllTold (host : HostView) (pick : Option Device → Option ℕ) (cs : List (Option Device)) (f : ℕ → List ℕ) : Type 0 where
  pub files : List (List ℕ)
  pub are : told host (map pick cs) ≡ Some files
  pub each : (d : ℕ) → by_number files d ≡ f d

some_is : {X : Type 0} (x y : X) → Some x ≡ Some y → x ≡ y
some_is x y e = cc

each_next : (f : ℕ → List ℕ) (files : List (List ℕ)) → ((d : ℕ) → by_number files d ≡ f (suc d)) → (d : ℕ) → by_number (f 0 ∷ files) d ≡ f d
each_next f files h zero = refl
each_next f files h (suc d) = h d

all_told : (host : HostView) (pick : Option Device → Option ℕ) → pick None ≡ None → (cs : List (Option Device)) (f : ℕ → List ℕ) → ((d : ℕ) → told_at host (pick (entry cs d)) ≡ Some (f d)) → AllTold host pick cs f
all_told host pick none [] f h = record { files = []; are = refl; each = λ d. some_is [] (f d) (ap (told_at host) (sym none) ∙ h d) }
all_told host pick none (c ∷ cs) f h =
    let rest = all_told host pick none cs (λ d. f (suc d)) (λ d. h (suc d)) in
    let first : told_at host (pick c) ≡ Some (f 0) = h zero in
    record {
      files = f 0 ∷ rest.files;
      are = rw (first, rest.are) refl;
      each = each_next f rest.files rest.each;
    }

-- one file of a table that is told
one_split : (host : HostView) (pick : Option Device → Option ℕ) (c : Option Device) (cs : List (Option Device)) (files : List (List ℕ))
    → ((rest : List (List ℕ)) → told host (map pick cs) ≡ Some rest → (d : ℕ) → told_at host (pick (entry cs d)) ≡ Some (by_number rest d))
    → (a : Option (List ℕ)) → told_at host (pick c) ≡ a → (b : Option (List (List ℕ))) → told host (map pick cs) ≡ b → (d : ℕ) → told host (pick c ∷ map pick cs) ≡ Some files → told_at host (pick (entry (c ∷ cs) d)) ≡ Some (by_number files d)
one_split host pick c cs files more None ae b be d all = absurd (let no : None ≡ Some files = rw ae at all in cc)
one_split host pick c cs files more (Some x) ae None be d all = absurd (let no : None ≡ Some files = rw (ae, be) at all in cc)
one_split host pick c cs files more (Some x) ae (Some rest) be zero all =
    let is : Some (x ∷ rest) ≡ Some files = rw (ae, be) at all in
    let same : x ∷ rest ≡ files = some_is (x ∷ rest) files is in
    rw (← same) ae
one_split host pick c cs files more (Some x) ae (Some rest) be (suc d) all =
    let is : Some (x ∷ rest) ≡ Some files = rw (ae, be) at all in
    let same : x ∷ rest ≡ files = some_is (x ∷ rest) files is in
    rw (← same) (more rest be d)

one_told : (host : HostView) (pick : Option Device → Option ℕ) → pick None ≡ None → (cs : List (Option Device)) (files : List (List ℕ)) → told host (map pick cs) ≡ Some files → (d : ℕ) → told_at host (pick (entry cs d)) ≡ Some (by_number files d)
one_told host pick none [] files are d = let is : [] ≡ files = some_is [] files are in rw (← is, none) refl
one_told host pick none (c ∷ cs) files are d = one_split host pick c cs files (λ rest e n. one_told host pick none cs rest e n) (told_at host (pick c)) refl (told host (map pick cs)) refl d are

-- at the boot each input has all its bytes left

fresh_input : (names : Option (List ℕ)) (bytes : Option (List ℕ)) → names ≢ None → Keeps names bytes → bytes ≡ Some (told_by names)
fresh_input None bytes some k = absurd (some refl)
fresh_input (Some x) None some k = absurd k
fresh_input (Some x) (Some y) some k = ap Some k

-- these inputs are what is told of the devices' files
abbrev InputsAre : HostView → List (Option Device) → (ℕ → List ℕ) → Type 0
InputsAre host ps f = (d : ℕ) → told_at host (input_at (entry ps d)) ≡ Some (f d)

input_put : (old host : HostView) (opened : ℕ) (f : ℕ → List ℕ) (n : ℕ) (x : Device) (o : Option (List ℕ)) (d : ℕ) → d ≡ n → x.input ≡ option_map (λ name. opened + 1) o → IsTold old.names o → HoldsOfInput (IsFreshFor old host) o (opened + 1) → Some [] ≡ Some (f d) → told_at host x.input ≡ Some (with_file old.names f n o d)
input_put old host opened f n x None d at is told fresh was = rw is was
input_put old host opened f n x (Some name) d at is told fresh was =
    let here : (d == n) ≡ true = grind (arith, nat_tests, at) in
    rw (is, here) (fresh_input (old.names name) (host.handle (opened + 1)).bytes told fresh.whole)

input_other : (names : List ℕ → Option (List ℕ)) (f : ℕ → List ℕ) (n d : ℕ) (o : Option (List ℕ)) → d ≢ n → with_file names f n o d ≡ f d
input_other names f n d None ne = refl
input_other names f n d (Some name) ne = let other : (d == n) ≡ false = grind (arith, nat_tests, ne) in rw other refl

input_line : (old host : HostView) (ps : List (Option Device)) (opened : ℕ) (l : DeviceLine) (f : ℕ → List ℕ) → FindsPlace ps l → IsTold old.names l.input → HoldsOfInput (IsFreshFor old host) l.input (opened + 1) → InputsAre host ps f → InputsAre host (slice_set ps l.number (Some (device_at opened l))) (with_file old.names f l.number l.input)
input_line old host ps opened l f place told fresh are d = elim (d == l.number) as (λ b. (d == l.number) ≡ b → told_at host (input_at (entry (slice_set ps l.number (Some (device_at opened l))) d)) ≡ Some (with_file old.names f l.number l.input d)) [
  | true ↦ λ e.
      let at : d ≡ l.number = grind (arith, nat_tests, e) in
      let none : entry ps d ≡ None = ap (entry ps) at ∙ place.free in
      let was : Some [] ≡ Some (f d) = ap (λ o. told_at host (input_at o)) (sym none) ∙ are d in
      let put = input_put old host opened f l.number (device_at opened l) l.input d at refl told fresh was in
      let here : entry (slice_set ps l.number (Some (device_at opened l))) d ≡ Some (device_at opened l) = ap (entry (slice_set ps l.number (Some (device_at opened l)))) at ∙ entry_put ps l.number (Some (device_at opened l)) place.within in
      rw here put
  | false ↦ λ e.
      let ne : d ≢ l.number = λ s. grind (arith, nat_tests, e, s) in
      rw (input_other old.names f l.number d l.input ne) (entry_set (λ o. told_at host (input_at o) ≡ Some (f d)) ps l.number d (Some (device_at opened l)) (are d) (λ s. absurd (ne s)))
] refl

inputs_are : (old host : HostView) (ps : List (Option Device)) (opened : ℕ) (ds : List DeviceLine) (f : ℕ → List ℕ) → FindPlaces (unwired ps) ds → AreTold old.names ds → HoldsOfInputs (IsFreshFor old host) opened ds → InputsAre host ps f → InputsAre host (wired_from ps opened ds) (inputs_from old.names f ds)
inputs_are old host ps opened [] f find told fresh are = are
inputs_are old host ps opened (l ∷ ds) f find told fresh are =
    inputs_are old host (slice_set ps l.number (Some (device_at opened l))) (opened + length (openings_of l)) ds (with_file old.names f l.number l.input) (find_rest ps opened l ds find) told.1 fresh.1
    (input_line old host ps opened l f (finds_place ps l ds find) told.0 fresh.0 are)

-- and nothing was written to the outputs
abbrev OutputsAre : HostView → List (Option Device) → Type 0
OutputsAre host ps = (d : ℕ) → told_at host (output_at (entry ps d)) ≡ Some []

fresh_output : (replies bytes : Option (List ℕ)) → IsSome replies → Keeps (empty_told replies) bytes → bytes ≡ Some []
fresh_output None bytes some k = absurd (cc)
fresh_output (Some x) None some k = absurd k
fresh_output (Some x) (Some y) some k = ap Some k

output_put : (old host : HostView) (n h : ℕ) (o : Option (List ℕ)) → IsSome (old.handle 0).bytes → HoldsOfFile (IsFresh old host) o n h → told_at host (option_map (λ name. h) o) ≡ Some []
output_put old host n h None some fresh = refl
output_put old host n h (Some name) some fresh = fresh_output (old.handle 0).bytes (host.handle h).bytes some fresh.empty

outputs_are : (old host : HostView) (ps : List (Option Device)) (opened : ℕ) (ds : List DeviceLine) → FindPlaces (unwired ps) ds → IsSome (old.handle 0).bytes → HoldsOfOutputs (IsFresh old host) opened ds → OutputsAre host ps → OutputsAre host (wired_from ps opened ds)
outputs_are old host ps opened [] find some fresh are = are
outputs_are old host ps opened (l ∷ ds) find some fresh are =
    outputs_are old host (slice_set ps l.number (Some (device_at opened l))) (opened + length (openings_of l)) ds (find_rest ps opened l ds find) some fresh.1
    (λ d. entry_set (λ o. told_at host (output_at o) ≡ Some []) ps l.number d (Some (device_at opened l)) (are d) (λ e. output_put old host l.number (opened + length (openings_of l)) l.output some fresh.0))

at_none : (host : HostView) (pick : Option Device → Option ℕ) (d : ℕ) → pick None ≡ None → told_at host (pick (entry no_wires d)) ≡ Some []
at_none host pick d none = rw (nothing_at d, none) refl

boot_same : (c : Config) (k : Kernel) (host : HostView) (v : StoreView) (slots : ℕ → List ℕ) (inputs : ℕ → List ℕ)
    → BootsAs c k → k.config ≡ c → v.slots ≡ Some slots → AllTold host input_at c.devices inputs → AllTold host output_at c.devices (λ d. []) → view k host v ≡ Some (boot (config_of c) inputs)
boot_same c k host v slots inputs boots is store ins outs =
    let b : Bytes = record { seen = seen k.memory slots; rests = by_number ins.files; sents = by_number outs.files } in
    let same : by_number ins.files ≡ inputs = λ i d. ins.each d i in
    let shown : view k host v ≡ Some (state_of k b) = rw (is, store, ins.are, outs.are) refl in
    shown ∙ ap Some (boots b outs.each ∙ ap (boot (config_of c)) same)

-- the kernel stands for the boot over the bytes of the inputs
pub boot_shown : (c : Config) (k : Kernel) (old host : HostView) (v : StoreView) (slots : ℕ → List ℕ) (ds : List DeviceLine)
    → BootsAs c k → k.config ≡ c → c.devices ≡ wired_from no_wires 1 ds → FindPlaces (unwired no_wires) ds → v.slots ≡ Some slots
    → IsSome (old.handle 0).bytes → AreTold old.names ds → HoldsOfInputs (IsFreshFor old host) 1 ds → HoldsOfOutputs (IsFresh old host) 1 ds
    → view k host v ≡ Some (boot (config_of c) (inputs_from old.names (λ d. []) ds))
boot_shown c k old host v slots ds boots is wired find store some told ins outs =
    boot_same c k host v slots (inputs_from old.names (λ d. []) ds) boots is store
    (rw wired (all_told host input_at refl (wired_from no_wires 1 ds) (inputs_from old.names (λ d. []) ds) (inputs_are old host no_wires 1 ds (λ d. []) find told ins (λ d. at_none host input_at d refl))))
    (rw wired (all_told host output_at refl (wired_from no_wires 1 ds) (λ d. []) (outputs_are old host no_wires 1 ds find some outs (λ d. at_none host output_at d refl))))

-- the parts of what is told
pub record Shown (k : Kernel) (host : HostView) (s : State) : Type 0 where
  pub bytes : Bytes
  pub is : s ≡ state_of k bytes
  pub files : List (List ℕ)
  pub are : told host (map output_at k.config.devices) ≡ Some files
  pub sents : bytes.sents ≡ by_number files

shown_parts : (k : Kernel) (host : HostView) (a : Option Seen) (b : Option (ℕ → List ℕ)) (files : Option (List (List ℕ))) (s : State) → told host (map output_at k.config.devices) ≡ files → option_map (state_of k) (bytes_with a b (option_map by_number files)) ≡ Some s → Shown k host s
shown_parts k host None b files s are e = absurd (cc)
shown_parts k host (Some a) None files s are e = absurd (cc)
shown_parts k host (Some a) (Some b) None s are e = absurd (cc)
shown_parts k host (Some a) (Some b) (Some files) s are e = record {
  bytes = record { seen = a; rests = b; sents = by_number files };
  is = sym (some_is _ s e);
  files = files;
  are = are;
  sents = refl;
}

shown_some : (k : Kernel) (host : HostView) (v : StoreView) (s : State) → view k host v ≡ Some s → Shown k host s
shown_some k host v s e = shown_parts k host (seen_with k.memory v) (rests_of host k.config) (told host (map output_at k.config.devices)) s refl e

is_device : (page : ℕ) (c : Option Device) (x : Device) (v : Option DeviceView) (p : Option PoolState) → c ≡ Some x → IsEquipped page c v p → IsSome v
is_device page None x v p e is = absurd (cc)
is_device page (Some c) x None p e is = absurd is
is_device page (Some c) x (Some v) p e is = refl

-- a device has sent what the view says
sent_at : (k : Kernel) (b : Bytes) (n : ℕ) (v : Option DeviceView) → IsSome v → sent_by (option_map (device_view b.seen.kept_bytes (b.rests n) (b.sents n) (entry k.pools n) (receiver k.transfers n)) v) ≡ b.sents n
sent_at k b n None some = absurd (cc)
sent_at k b n (Some v) some = refl

sent_view : (k : Kernel) (b : Bytes) (n : ℕ) → IsSome (entry k.devices n) → sent_of (state_of k b) n ≡ b.sents n
sent_view k b n some = ap sent_by (entry_view b.seen.kept_bytes b.rests b.sents k.pools (receiver k.transfers) k.devices n) ∙ sent_at k b n (entry k.devices n) some

-- what was written to each output is what its device has sent
pub outputs_shown : (k : Kernel) (old host : HostView) (v : StoreView) (s : State) (ds : List DeviceLine)
    → IsGood k → k.config.devices ≡ wired_from no_wires 1 ds → FindPlaces (unwired no_wires) ds → IsSome (old.handle 0).bytes → view k host v ≡ Some s → HoldsOfOutputs (HasAll s old host) 1 ds
outputs_shown k old host v s ds good wired find some e =
    let shown = shown_some k host v s e in
    outputs_map (λ n h. (x : Device) × (entry (wired_from no_wires 1 ds) n ≡ Some x) × (x.output ≡ Some h)) (HasAll s old host) 1 ds (λ n h later own.
    let at : entry k.config.devices n ≡ Some own.0 = ap (λ l. entry l n) wired ∙ own.1 in
    let there : IsSome (entry k.devices n) = is_device k.config.page (entry k.config.devices n) own.0 (entry k.devices n) (entry k.pools n) at (good.equipped.each n) in
    let told_one = one_told host output_at refl k.config.devices shown.files shown.are n in
    let bytes : (host.handle h).bytes ≡ Some (by_number shown.files n) = rw (at, own.2) at told_one in
    let sent : sent_of s n ≡ by_number shown.files n = ap (λ t. sent_of t n) shown.is ∙ sent_view k shown.bytes n there ∙ ap (λ (f : ℕ → List ℕ). f n) shown.sents in
    empty_appends (old.handle 0).bytes (host.handle h).bytes (by_number shown.files n) (sent_of s n) some bytes sent) (wired_outputs no_wires 1 ds find) where
      empty_appends : (replies bytes : Option (List ℕ)) (told sent : List ℕ) → IsSome replies → bytes ≡ Some told → sent ≡ told → Appends (empty_told replies) bytes sent
      empty_appends None bytes told sent some is same = absurd (cc)
      empty_appends (Some r) bytes told sent some is same = rw (is, same) refl
