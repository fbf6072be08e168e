-- What is lent for the first output that waits, and that its device may go on with it.
use Rattle.std.proofs.Common.{◌≡◌, ℕ, ◌+◌, ◌-◌, ◌*◌, ◌/◌, ◌%◌, ◌^◌, ◌<◌, ◌≤◌, zero, suc, Bool, true, false, not, cond, List, [], ◌∷◌, refl, sym, ap, subst, arith, rules, ◌∙◌, length, get_or}
use Rattle.std.specs.Prelude.{Option, Some, None, All, IfSome, IsTrue, is_some, nat_le, ◌==◌, ◌&&◌, sum_by, if◌then◌else◌, unwrap_or}
use Rattle.std.specs.Option.{option_map}
use Rattle.std.proofs.Math.Nat.{div-add-mod, mul-div-le}
use Rattle.std.proofs.lemmas.Bool.{and_parts, not-false, leb-true}
use Rattle.std.proofs.lemmas.List.Sums.{sum_by-cons}
use Rattle.std.proofs.lemmas.Nat.{le-div, mod_below}
use Rattle.genie_base.specs.Configs.{config_of, device_config, most}
use Rattle.genie_base.specs.Counts.{span}
use Rattle.genie_base.specs.Lemmas.Places.{num}
use Rattle.genie_base.specs.declared.config.DeviceConfig.{DeviceConfig}
use Rattle.genie_base.specs.declared.event.Event.TheVariants.{Send}
use Rattle.genie_base.specs.declared.refusal.Refusal.TheVariants as cause
use Rattle.genie_base.specs.declared.semantics.Direction.{Direction}
use Rattle.genie_base.specs.declared.semantics.Direction.TheVariants as direction
use Rattle.genie_device.specs.Device.{DeviceView}
use Rattle.genie_frame.specs.declared.frame.OutLoan.{OutLoan}
use Rattle.genie_frame.specs.FrameTable.{counts_at}
use Rattle.genie_frame.specs.Frames.{outputs}
use Rattle.genie_input.specs.Pools.{PoolState}
use Rattle.genie_plan.specs.Loans.{Loan, is_kind, loan_times, output_kind, output_loan, output_loans}
use Rattle.genie_plan.specs.Plans.{CanSend, IsWithin, output_frames, range_bytes}
use Rattle.genie_plan.specs.Lemmas.Ranges.{output_there, range_length, out_frame_at, out_frames_count}
use Rattle.genie_model.specs.Lemmas.Causes.{first_none}
use Rattle.genie_model.specs.Lemmas.Lists.{Has, find_has, all_has, has_map}
use Rattle.genie_model.specs.Pending as pending
use Rattle.genie_model.specs.Refusing.{refuse, has_output, is_within}
use Rattle.genie_model.specs.State as flat
use Rattle.genie_model.specs.Tables.{entry}
use Rattle.genie_model.specs.declared.phase.Phase.{Phase}
use Rattle.genie_model.specs.declared.phase.Phase.TheVariants.{Queued, Posted, Moving, Ready}
use Rattle.genie_orderly.specs.Orderly.{IsTransfer, has_phase}
use Rattle.genie_kernel.specs.declared.kernel.Kernel.{Kernel}
use Rattle.genie_kernel.specs.declared.transfer.Transfer.{Transfer}
use Rattle.genie_kernel.specs.Calls.{begins_at, first_waiting, is_strong_call, waits_for, is_copy_input}
use Rattle.genie_base.specs.Transfers.{class_of}
use Rattle.genie_base.specs.declared.semantics.Class.{Class}
use Rattle.genie_base.specs.declared.semantics.Class.TheVariants.{Copy, Share, Move, WeakMove}
use Rattle.genie_kernel.specs.Counted.{lent_of, loans_on}
use Rattle.genie_kernel.specs.Good.{IsGood}
use Rattle.genie_kernel.specs.Matching.{IsSending, IsSendingFor}
use Rattle.genie_kernel.specs.Planned.{FitsDevice, Lends, LendsOut, is_early_device}
use Rattle.genie_kernel.specs.Sizes.{IsDeviceOf, IsEquipped}
use Rattle.genie_kernel.specs.Transfers.{transfer_view}
use Rattle.genie_kernel.specs.View.{outline, no_bytes}
use Rattle.genie_kernel.specs.Lemmas.Staying.{at_least}
use Rattle.genie_sending.proofs.Outputs.{IsFirstOutput, its_device}
use Rattle.genie_sending.proofs.Places.{entry_mapped}

-- a device with an output, which is open for writing, and a budget
pub record IsSender (k : Kernel) (d n : ℕ) : Type 0 where
  pub config : DeviceConfig
  pub device : DeviceView
  pub handle : ℕ
  pub configured : entry k.config.devices d ≡ Some config
  pub there : entry k.devices d ≡ Some device
  pub is_of : IsDeviceOf k.config.page config device
  pub output : config.output ≡ Some handle
  pub some : 1 ≤ n
  pub most : n ≤ 65536

has_handle : (o : Option ℕ) → is_some o ≡ true → (h : ℕ) × (o ≡ Some h)
has_handle None e = absurd (cc)
has_handle (Some h) e = (h, refl)

by_tables : (k : Kernel) (d n : ℕ) → 1 ≤ n → n ≤ 65536 → (c : Option DeviceConfig) (v : Option DeviceView) (p : Option PoolState) → entry k.config.devices d ≡ c → entry k.devices d ≡ v → IsEquipped k.config.page c v p → has_output (option_map device_config c) ≡ true → IsSender k d n
by_tables k d n some most None v p ce ve h out = absurd (cc)
by_tables k d n some most (Some c) None p ce ve h out = absurd h
by_tables k d n some most (Some c) (Some v) p ce ve h out = let o = has_handle c.output out in record { config = c; device = v; handle = o.0; configured = ce; there = ve; is_of = h.0; output = o.1; some = some; most = most }

pub sender : (k : Kernel) (d n : ℕ) → IsGood k → refuse (outline k) (Send d n) ≡ None → IsSender k d n
sender k d n g accepted =
    let c = entry (config_of k.config).devices d in
    let a = first_none (not (has_output c), cause.Dev) ((not (is_within 1 65536 n), cause.Range) ∷ []) accepted in
    let b = first_none (not (is_within 1 65536 n), cause.Range) [] a.1 in
    let budget = and_parts (nat_le 1 n) (nat_le n 65536) (not-false (is_within 1 65536 n) b.0) in
    by_tables k d n (leb-true 1 n budget.0) (leb-true n 65536 budget.1) (entry k.config.devices d) (entry k.devices d) (entry k.pools d) refl refl (g.equipped.each d) (ap has_output (sym (entry_mapped device_config k.config.devices d)) ∙ not-false (has_output c) a.0)

phase_outward : (dir : Direction) (p : Phase) → IsTrue (has_phase dir p) → pending.is_queued p ≡ true → dir ≡ direction.Outward
phase_outward direction.Outward p h e = refl
phase_outward direction.Inward Queued h e = absurd (cc)
phase_outward direction.Inward Posted h e = absurd (cc)
phase_outward direction.Inward Moving h e = absurd (cc)
phase_outward direction.Inward Ready h e = absurd (cc)

-- what waits is an output
pub first_output : (k : Kernel) (d : ℕ) (t : Transfer) → IsGood k → first_waiting k.transfers d ≡ Some t → IsFirstOutput k.transfers d t
first_output k d t g found =
    let see : Transfer → flat.Transfer = transfer_view (no_bytes k.config.page).seen.kept_bytes k.devices k.pools (first_waiting k.transfers) in
    let has = find_has (waits_for d) k.transfers t found in
    let call : IsTransfer (see t) = all_has IsTransfer (outline k).transfers g.orderly.calls (see t) (has_map see t k.transfers has.0) in
    record { waits = found; outward = phase_outward t.dir t.phase call.phase (and_parts (pending.is_queued t.phase) (t.dev == d) has.1).0 }

pub no_loan : OutLoan
no_loan = record { frame = record { 0 = 0 }; strong = false }

kind_same : (strong : Bool) → is_kind (output_kind strong) (output_kind strong) ≡ true
kind_same true = refl
kind_same false = refl

-- a loan counts on its frame
counted_loan : (strong : Bool) (xs : List OutLoan) → All (λ (l : OutLoan). l.strong ≡ strong) xs → (j : ℕ) (d : OutLoan) → j < length xs → 0 < loan_times (output_loans xs) (output_kind strong) (get_or xs j d).frame.0
counted_loan strong [] a j d l = absurd (omega (arith, l))
counted_loan strong (x ∷ xs) a zero d l =
    let same : (x.frame.0 == x.frame.0) ≡ true = grind (arith, rules) in
    let passes : (is_kind (output_kind strong) (output_kind x.strong) && (x.frame.0 == x.frame.0)) ≡ true = (λ i. is_kind (output_kind strong) (output_kind (a 0 x (omega arith) i)) && same i) ∙ ap (λ b. b && true) (kind_same strong) in
    let one : num (is_kind (output_kind strong) (output_kind x.strong) && (x.frame.0 == x.frame.0)) ≡ 1 = ap num passes in
    omega (arith, sum_by-cons (λ (y : Loan). cond (is_kind (output_kind strong) y.kind && (y.frame == x.frame.0)) 1 0) (output_loan x) (output_loans xs), one)
counted_loan strong (x ∷ xs) a (suc j) d l =
    let f : ℕ = (get_or xs j d).frame.0 in
    let later = counted_loan strong xs (λ i e m. a (suc i) e (omega (arith, m))) j d (omega (arith, l)) in
    omega (arith, sum_by-cons (λ (y : Loan). cond (is_kind (output_kind strong) y.kind && (y.frame == f)) 1 0) (output_loan x) (output_loans xs), later)

amount_of : (strong : Bool) (ts : List Transfer) (pools : List (Option PoolState)) (f : ℕ) → outputs strong (lent_of ts pools f) ≡ sum_by (loans_on (output_kind strong) f) ts
amount_of true ts pools f = refl
amount_of false ts pools f = refl

no_address : (c : Class) (dir : Direction) → dir ≡ direction.Outward → is_copy_input c dir ≡ false
no_address c direction.Inward e = absurd (cc)
no_address Copy direction.Outward e = refl
no_address Share direction.Outward e = refl
no_address Move direction.Outward e = refl
no_address WeakMove direction.Outward e = refl

pub begins_there : (t : Transfer) → t.dir ≡ direction.Outward → begins_at t ≡ t.offset
begins_there t out = ap (λ b. unwrap_or (if b then Some t.addr else None) t.offset) (no_address (class_of t.sem) t.dir out)

pub whole_pages : (page a b : ℕ) → 0 < page → a ≤ b → a / page ≤ b / page
whole_pages page a b some l = le-div (a / page) b page some (let d = mul-div-le a page in let c : page * (a / page) ≡ a / page * page = omega arith in omega (arith, d, l, c))

times_apart : (page e q : ℕ) → q ≤ e → page * e ≡ page * (e - q) + page * q
times_apart page e q l = let s : e ≡ (e - q) + q = omega (arith, l) in ap (λ z. page * z) s ∙ omega arith

-- the range lies in the pages that it touches
pub in_its_pages : (page at len : ℕ) → 0 < page → 0 < len → at % page + len ≤ page * span page at len
in_its_pages page at len some l =
    let none : (len == 0) ≡ false = grind (arith, rules, l) in
    let q : ℕ = at / page in
    let e : ℕ = (at + len - 1) / page in
    let is : span page at len ≡ e - q + 1 = ap (λ b. if b then 0 else (at + len - 1) / page - at / page + 1) none in
    let from = div-add-mod at page in
    let to = div-add-mod (at + len - 1) page in
    let small = mod_below (at + len - 1) page some in
    let low : q ≤ e = whole_pages page at (at + len - 1) some (omega (arith, l)) in
    let split : page * (e - q + 1) ≡ page * (e - q) + page = grind arith in
    let more : page * e ≡ page * (e - q) + page * q = times_apart page e q low in
    let total : page * span page at len ≡ page * (e - q + 1) = ap (λ z. page * z) is in
    omega (arith, from, to, small, split, more, total, l)

-- what is lent for it, and where its range begins there
pub record IsLent (k : Kernel) (t : Transfer) (items : List OutLoan) (first len : ℕ) : Type 0 where
  pub kinds : All (λ (l : OutLoan). l.strong ≡ is_strong_call t) items
  pub pages : length (output_frames items) ≡ span k.config.page t.offset t.len
  pub begins : first ≡ t.offset % k.config.page
  pub long : len ≡ t.len

module _ (k : Kernel) (g : IsGood k) (d : ℕ) (t : Transfer) (is : IsFirstOutput k.transfers d t) where
  there : Has t k.transfers
  there = (find_has (waits_for d) k.transfers t is.waits).0

  pub lends : LendsOut k.config.page t t.loans
  lends = subst (λ dir. Lends k.config.page k.memory.frames.owners (is_early_device (entry k.devices t.dev)) t dir) is.outward (all_has (λ (u : Transfer). Lends k.config.page k.memory.frames.owners (is_early_device (entry k.devices u.dev)) u u.dir) k.transfers g.planned t there)

  pub page_above : 0 < k.config.page
  page_above = grind (arith, rules, g.fits.page)

  pub page_most : k.config.page ≤ 4096
  page_most = grind (arith, rules, g.fits.page)

  module _ (v : DeviceView) (at : entry k.devices d ≡ Some v) where
    pub fits : t.len ≤ v.limit
    fits = subst (FitsDevice t.len) (ap (entry k.devices) (its_device k.transfers d t is) ∙ at) (all_has (λ (u : Transfer). FitsDevice u.len (entry k.devices u.dev)) k.transfers g.fitting t there)

    pub goes : IsSendingFor v t
    goes = subst (IsSending v) is.waits (subst (λ o. IfSome o (λ (z : DeviceView). IsSending z (first_waiting k.transfers d))) at (g.sending d))

  module _ (items : List OutLoan) (first len : ℕ) (lent : IsLent k t items first len) (count : (f : ℕ) → loans_on (output_kind (is_strong_call t)) f t ≡ loan_times (output_loans items) (output_kind (is_strong_call t)) f) where
    strong_same : (j : ℕ) (x : OutLoan) → j < length items → (get_or items j x).strong ≡ is_strong_call t
    strong_same j x l = lent.kinds j x l

    out : (j : ℕ) (x : OutLoan) → j < length items → 0 < outputs (get_or items j x).strong (counts_at k.memory.frames (get_or items j x).frame.0)
    out j x l =
        let f : ℕ = (get_or items j x).frame.0 in
        let s : Bool = is_strong_call t in
        let one = counted_loan s items lent.kinds j x l in
        let all = at_least (loans_on (output_kind s) f) k.transfers t there in
        let have : outputs s (counts_at k.memory.frames f) ≡ sum_by (loans_on (output_kind s) f) k.transfers = ap (outputs s) (g.counted f) ∙ amount_of s k.transfers k.pools f in
        let same = count f in
        subst (λ b. 0 < outputs b (counts_at k.memory.frames f)) (sym (strong_same j x l)) (omega (arith, one, all, have, same))

    within : IsWithin k.memory.frames (output_frames items) first len
    within l =
        let long = lent.long in
        let inside = in_its_pages k.config.page t.offset t.len page_above (omega (arith, l, long)) in
        let page : k.memory.frames.page ≡ k.config.page = g.sized.page in
        let frames : k.memory.frames.page * length (output_frames items) ≡ k.config.page * span k.config.page t.offset t.len = (λ i. page i * lent.pages i) in
        omega (arith, inside, frames, long, lent.begins)

    -- it may be sent
    pub sendable : t.len < 2 ^ 31 → CanSend k.memory.frames items first len × (t.len ≡ length (range_bytes k.memory.frames (output_frames items) first len))
    sendable short =
        let small = mod_below t.offset k.config.page page_above in
        let most = page_most in
        let begins = lent.begins in
        let long = lent.long in (
          record { out = out; within = within; fits = omega (arith, small, most, begins, long, short) },
          sym (range_length (output_frames items) first len k.memory.frames g.sound.shaped (λ j l. frame_there j l) within ∙ long),
        )
      where
        frame_there : (j : ℕ) → j < length (output_frames items) → get_or (output_frames items) j 0 < length k.memory.frames.counts
        frame_there j l =
            let size = out_frames_count items in
            let m : j < length items = omega (arith, l, size) in
            subst (λ f. f < length k.memory.frames.counts) (out_frame_at items j no_loan m) (output_there k.memory.frames.counts (get_or items j no_loan).strong (get_or items j no_loan).frame.0 (out j no_loan m))
