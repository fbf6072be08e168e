-- What a receive step of a device takes of its stream.
use Rattle.std.proofs.Common.{◌≡◌, ◌≢◌, ◌⊎◌, inl, inr, ℕ, zero, suc, ◌+◌, ◌<◌, ◌≤◌, Bool, true, false, List, [], ◌∷◌, ◌++◌, length, take, drop, get_or, All, AllPairs, append-nil, append_assoc, refl, sym, ap, ap₂, subst, ◌∙◌, true≢false, eqb-true, eq-eqb, lt-ltb, arith}
use Rattle.std.specs.Prelude.{Option, Some, None, IfSome, IsTrue, ⊤, ◌==◌, nat_le, nat_lt, slice_index, option_and_then}
use Rattle.std.proofs.lemmas.Bool.{cond_both, and_parts, not_from_false}
use Rattle.std.proofs.lemmas.Bool.Decides.{nat_tests}
use Rattle.std.proofs.lemmas.List.{length-append, length-take, take-append-drop}
use Rattle.std.proofs.lemmas.List.Elements.{All-push, All-weaker}
use Rattle.std.proofs.lemmas.List.Quantifiers.{all_pairs_push}
use Rattle.genie_base.specs.Configs.{most}
use Rattle.genie_base.specs.Headers.{header_taken, size_of_header, is_whole_header, is_valid_header, is_format, port_in, len_in, flow_in}
use Rattle.genie_base.specs.declared.config.Kind.{Kind}
use Rattle.genie_base.specs.declared.reply.Reply.TheVariants as reply
use Rattle.genie_model.specs.declared.fate.Fate.{Fate}
use Rattle.genie_model.specs.declared.fate.Fate.TheVariants.{Matched, Skipped, Gathering}
use Rattle.genie_model.specs.declared.phase.Phase.TheVariants.{Moving}
use Rattle.genie_model.specs.State.{State, Transfer, Device, Datagram}
use Rattle.genie_model.specs.Tables.{entry}
use Rattle.genie_model.specs.Pending.{is_inward, is_early, is_early_at, early_device, is_numbered, awaits, pending, first_posted}
use Rattle.genie_model.specs.Space.{Outcome}
use Rattle.genie_model.specs.Sending.{change_device}
use Rattle.genie_model.specs.Receiving.{receiving, set_device, is_busy, with_phase, with_datagram, gathered, after_receiving, change_transfer, deliver, complete, landing, landed, land_in, land, kept, after_bytes, go_on, take_payload, datagram, match_header, begin_datagram, read_header, take_header, receive_record, receive, recv}
use Rattle.genie_model.specs.Lemmas.ReceiveSteps.{choice}
use Rattle.genie_model.specs.Lemmas.Lists.{entry_set, entry_same, has_at, all_has, find_has, none_found, none_has}
use Rattle.genie_model.specs.Lemmas.PendingCalls.{KeepsCall, change_remain, remain_order}
use Rattle.genie_orderly.specs.Lemmas.ChangedTransfers.{all_numbered}
use Rattle.genie_orderly.specs.Lemmas.Receivers.{received_input}
use Rattle.genie_model.specs.Lemmas.SendQueues.{same_number}
use Rattle.genie_orderly.specs.Orderly.{IsInput, GoesToInput, IsUnderWay, SuitsDevice, IsOrderly, matched_to, receives_for, may_become}
use Rattle.genie_laws.specs.Streams.{Taken, IsHeader, Consists, HasCome, HasOfNext, Reads, WentElsewhere, IsServed, WentApart, HasTaken}
use Rattle.genie_laws.proofs.Streams.Records.{whole_length, Ended, ended, consists_more, come_on}
use Rattle.genie_laws.proofs.Streams.Walks.{IsKnown, One, none_some, same_some, moving_has, frame_one, past_one, begin_one, begin_beside, land_one, land_beside, end_one, end_beside, deliver_one, first_one}

abbrev Rises : List Transfer → Type 0
Rises ts = AllPairs (λ (t u : Transfer). t.number < u.number) ts

-- what the step has made of the state so far
pub record Walk (s : State) (d : ℕ) (early : Bool) (Q : Transfer → Type 0) (taken : List Taken) (header payload : List ℕ) (aim : Option ℕ) (t : State) : Type 0 where
  pub next : t.next ≡ s.next
  pub order : AllPairs (λ (t u : Transfer). t.number < u.number) t.transfers
  pub each : All (One s d early Q taken header payload aim) t.transfers
  pub there : (v : Device) × (entry t.devices d ≡ Some v)
  pub others : (e : ℕ) → (e == d) ≡ false → entry t.devices e ≡ entry s.devices e

-- what it leaves
pub record Leaves (s : State) (d : ℕ) (stream : List ℕ) (Q : Transfer → Type 0) (taken : List Taken) (t : State) : Type 0 where
  pub more : List Taken
  pub few : length more ≤ 1
  pub has : HasTaken stream d (taken ++ more) t
  pub next : t.next ≡ s.next
  pub other : All (λ (u : Transfer). u.device ≢ d → Q u) t.transfers
  pub others : (e : ℕ) → (e == d) ≡ false → entry t.devices e ≡ entry s.devices e

abbrev Calls : ℕ → List Taken → Type 0
Calls n taken = All (λ (r : Taken). IfSome r.input (λ k. k < n)) taken

module _ (s : State) (d : ℕ) (stream : List ℕ) (early : Bool) (Q : Transfer → Type 0) where
  abbrev Walks : List Taken → List ℕ → List ℕ → Option ℕ → State → Type 0
  Walks taken header payload aim t = Walk s d early Q taken header payload aim t

  walk_change : (taken more : List Taken) (header payload header' payload' : List ℕ) (aim new : Option ℕ) (t : State) (k : ℕ) (f : Transfer → Transfer) (R : Transfer → Type 0) → KeepsCall f → All R t.transfers
      → ((u : Transfer) → (u.number == k) ≡ true → R u → One s d early Q taken header payload aim u → One s d early Q more header' payload' new (f u)) → ((u : Transfer) → (u.number == k) ≡ false → One s d early Q taken header payload aim u → One s d early Q more header' payload' new u)
      → Walks taken header payload aim t → Walks more header' payload' new (change_transfer t k f)
  walk_change taken more header payload header' payload' aim new t k f R call all here beside w = record {
    next = w.next;
    order = remain_order (change_remain (is_numbered k) f call t.transfers) w.order;
    each = all_numbered k f (λ u. R u × One s d early Q taken header payload aim u) (One s d early Q more header' payload' new) (λ u e h. here u e h.0 h.1) (λ u e h. beside u e h.1) t.transfers w.order (λ i c lt. (all i c lt, w.each i c lt));
    there = w.there;
    others = w.others;
  }

  walk_each : (taken : List Taken) (header payload : List ℕ) (aim : Option ℕ) (more : List Taken) (header' payload' : List ℕ) (new : Option ℕ) (t : State) → ((u : Transfer) → One s d early Q taken header payload aim u → One s d early Q more header' payload' new u) → Walks taken header payload aim t → Walks more header' payload' new t
  walk_each taken header payload aim more header' payload' new t f w = record { next = w.next; order = w.order; each = All-weaker (One s d early Q taken header payload aim) (One s d early Q more header' payload' new) f t.transfers w.each; there = w.there; others = w.others }

  set_at : (t : State) (v old : Device) → entry t.devices d ≡ Some old → entry (set_device t d v).devices d ≡ Some (receiving v old)
  set_at t v old e = entry_same t.devices d old (change_device (receiving v) (entry t.devices d)) e ∙ ap (change_device (receiving v)) e

  walk_device : (taken : List Taken) (header payload : List ℕ) (aim : Option ℕ) (t : State) (v : Device) → Walks taken header payload aim t → Walks taken header payload aim (set_device t d v)
  walk_device taken header payload aim t v w = record {
    next = w.next;
    order = w.order;
    each = w.each;
    there = (receiving v w.there.0, set_at t v w.there.0 w.there.1);
    others = λ e n. entry_set (λ x. x ≡ entry s.devices e) t.devices d e (change_device (receiving v) (entry t.devices d)) (w.others e n) (λ same. absurd (true≢false (sym (eq-eqb e d same) ∙ n)));
  }

  walk_taken : (taken : List Taken) (header payload : List ℕ) (aim : Option ℕ) (t : State) → Walks taken header payload aim t → Calls s.next taken → AllPairs WentApart taken → IfSome (entry t.devices d) (Reads stream taken header payload) → is_early_at t d ≡ early → HasTaken stream d taken t
  walk_taken taken header payload aim t w calls apart device soon = record {
    header = header;
    payload = payload;
    device = device;
    calls = subst (λ n. Calls n taken) (sym w.next) calls;
    apart = apart;
    inputs = λ i c lt. subst (λ b. IsServed b taken header payload d (get_or t.transfers i c)) (sym soon) (w.each i c lt).own;
  }

  module _ (taken : List Taken) (calls : Calls s.next taken) (apart : AllPairs WentApart taken) where
    abbrev LeavesAt : State → Type 0
    LeavesAt t = Leaves s d stream Q taken t

    -- no record is taken whole
    stay_so : (header payload : List ℕ) (aim : Option ℕ) (t : State) → Walks taken header payload aim t → IfSome (entry t.devices d) (Reads stream taken header payload) → is_early_at t d ≡ early → LeavesAt t
    stay_so header payload aim t w device soon = record {
      more = [];
      few = omega arith;
      has = subst (λ l. HasTaken stream d l t) (sym (append-nil taken)) (walk_taken taken header payload aim t w calls apart device soon);
      next = w.next;
      other = λ i c lt. (w.each i c lt).other;
      others = w.others;
    }

    -- one is
    took_so : (r : Taken) (t : State) → Walks (taken ++ r ∷ []) [] [] None t → IfSome r.input (λ k. k < s.next) → ((k : ℕ) → r.input ≡ Some k → WentElsewhere taken k) → IfSome (entry t.devices d) (Reads stream (taken ++ r ∷ []) [] []) → is_early_at t d ≡ early → LeavesAt t
    took_so r t w call free device soon = record {
      more = r ∷ [];
      few = omega arith;
      has = walk_taken (taken ++ r ∷ []) [] [] None t w (All-push (λ (q : Taken). IfSome q.input (λ k. k < s.next)) taken r calls call) (all_pairs_push WentApart taken r apart (λ i c lt k a b. free k b i c lt a)) device soon;
      next = w.next;
      other = λ i c lt. (w.each i c lt).other;
      others = w.others;
    }

    -- the datagram is over: its record is taken, and went to the input that it meets, or to none
    module _ (header payload : List ℕ) (t : State) (device : (input : Option ℕ) → IfSome (entry t.devices d) (Reads stream (taken ++ (record { header = header; payload = payload; input = input }) ∷ []) [] [])) (soon : is_early_at t d ≡ early) where
      abbrev for : Option ℕ → Taken
      for input = record { header = header; payload = payload; input = input }

      nobody_so : Walks taken header payload None t → LeavesAt t
      nobody_so w = took_so (for None) t (walk_each taken header payload None (taken ++ for None ∷ []) [] [] None t (λ u o. past_one s d early Q taken header payload (for None) None u (λ m at. none_some u.number (o.aims m at)) (none_some u.number) o) w) tt (λ k e. absurd (none_some k e)) (device None) soon

      deliver_so : (g : Datagram) (truncated : Bool) (k : ℕ) (first : Option ℕ) → first_posted t d (port_in header) (flow_in header) ≡ first → g.len ≡ len_in header → truncated ≡ nat_lt (length payload) (len_in header) → g.bytes ≡ payload → Walks taken header payload None t → LeavesAt (deliver t g truncated k first).0
      deliver_so g truncated k None e long cut bytes w = nobody_so w
      deliver_so g truncated k (Some u) e long cut bytes w =
          let one = first_one s d early Q taken header payload None (port_in header) (flow_in header) t u w.order w.each e in
          let f : Transfer → Transfer = gathered truncated g.len g.bytes in
          took_so (for (Some u)) (change_transfer t u f)
          (walk_change taken (taken ++ for (Some u) ∷ []) header payload [] [] None None t u f (λ x. (x.number == u) ≡ true → awaits d (port_in header) (flow_in header) x ≡ true) (λ x. refl) one.waits
          (λ x y waits o. deliver_one s d early Q u one.is taken header payload truncated g.len g.bytes x long cut bytes y (waits y) o)
          (λ x n o. end_beside s d early Q u one.is taken header payload None x (λ m at. none_some x.number (o.aims m at)) n o) w)
          one.is.0 (λ n same. let number : u ≡ n = cc in subst (WentElsewhere taken) number one.free) (device (Some u)) soon

      matched_so : (g : Datagram) (truncated : Bool) (k : ℕ) (found : Option Transfer) → pending t k ≡ found → IsInput s d k → g.len ≡ len_in header → truncated ≡ nat_lt (length payload) (len_in header) → Walks taken header payload (Some k) t → LeavesAt (change_transfer t k (with_datagram truncated g.len))
      matched_so g truncated k None e is long cut w =
          let f : Transfer → Transfer = with_datagram truncated g.len in
          let none = none_found (is_numbered k) t.transfers e in
          took_so (for None) (change_transfer t k f)
          (walk_change taken (taken ++ for None ∷ []) header payload [] [] (Some k) None t k f (λ x. (x.number == k) ≡ false) (λ x. refl) (λ i c lt. none_has (is_numbered k) (get_or t.transfers i c) t.transfers (has_at t.transfers i c lt) none)
          (λ x y n o. absurd (true≢false (sym y ∙ n)))
          (λ x n o. past_one s d early Q taken header payload (for None) (Some k) x (λ m at. same_some k x.number (o.aims m at) n) (none_some x.number) o) w)
          tt (λ n same. absurd (none_some n same)) (device None) soon
      matched_so g truncated k (Some u) e is long cut w =
          let f : Transfer → Transfer = with_datagram truncated g.len in
          let has = find_has (is_numbered k) t.transfers u e in
          let number : u.number ≡ k = eqb-true u.number k has.1 in
          let one = all_has (One s d early Q taken header payload (Some k)) t.transfers w.each u has.0 in
          let own = one.known.input d (subst (IsInput s d) (sym number) is) in
          let free = (moving_has early taken header payload u u.phase (one.moves (ap Some (sym number))) (one.own own.0 own.1)).1 in
          took_so (for (Some k)) (change_transfer t k f)
          (walk_change taken (taken ++ for (Some k) ∷ []) header payload [] [] (Some k) None t k f (λ x. ⊤) (λ x. refl) (λ i c lt. tt)
          (λ x y _ o. end_one s d early Q k is taken header payload truncated g.len x long cut y o)
          (λ x n o. end_beside s d early Q k is taken header payload (Some k) x (λ m at. same_some k x.number (o.aims m at) n) n o) w)
          is.0 (λ n same. let at : u.number ≡ n = number ∙ (cc) in subst (WentElsewhere taken) at free) (device (Some k)) soon

      complete_so : (g : Datagram) (truncated : Bool) (k : ℕ) (fate : Fate) → GoesToInput s d fate → HasCome g header payload → g.fate ≡ fate → truncated ≡ nat_lt (length payload) (len_in header) → Walks taken header payload (matched_to fate) t → LeavesAt (complete t d g truncated k fate).0
      complete_so g truncated k Skipped goes come fate cut w = nobody_so w
      complete_so g truncated k (Matched u) goes come fate cut w = matched_so g truncated u (pending t u) refl goes come.len cut w
      complete_so g truncated k Gathering goes come fate cut w = deliver_so g truncated k (first_posted t d g.port g.flow) (ap₂ (first_posted t d) (sym come.port) (sym come.flow)) come.len cut (come.bytes ∙ ap (kept payload) fate) w

    -- the device goes on, with no datagram or with one
    over_reads : (header payload : List ℕ) (v old : Device) (input : Option ℕ) → v.header ≡ [] → v.present ≡ None → Consists stream taken (header ++ (payload ++ v.rest)) → Ended header payload v.rest → Reads stream (taken ++ (record { header = header; payload = payload; input = input }) ∷ []) [] [] (receiving v old)
    over_reads header payload v old input empty none cons end =
        let r : Taken = record { header = header; payload = payload; input = input } in
        (subst (Consists stream (taken ++ r ∷ [])) end.left (consists_more stream taken r (header ++ (payload ++ v.rest)) (payload ++ v.rest) cons (end.begins input)), rw none (refl, λ _. (sym empty, refl)))

    module _ (v : Device) (header : List ℕ) (soon : is_early v.kind ≡ early) (empty : v.header ≡ []) where
      abbrev OverAt : List ℕ → State → Type 0
      OverAt payload t = (input : Option ℕ) → IfSome (entry t.devices d) (Reads stream (taken ++ (record { header = header; payload = payload; input = input }) ∷ []) [] [])

      over_at : (payload : List ℕ) (t : State) (old : Device) → entry t.devices d ≡ Some old → Consists stream taken (header ++ (payload ++ v.rest)) → Ended header payload v.rest → OverAt payload (set_device t d (record v { present = None }))
      over_at payload t old is cons end input =
          let over : Device = record v { present = None } in
          subst (λ x. IfSome x (Reads stream (taken ++ (record { header = header; payload = payload; input = input }) ∷ []) [] [])) (sym (set_at t over old is)) (over_reads header payload over old input empty refl cons end)

      soon_at : (t : State) (old w : Device) → w.kind ≡ v.kind → entry t.devices d ≡ Some old → is_early_at (set_device t d w) d ≡ early
      soon_at t old w kind is = ap early_device (set_at t w old is) ∙ ap is_early kind ∙ soon

      go_on_so : (t : State) (g : Datagram) (k : ℕ) (payload : List ℕ) → Walks taken header payload (matched_to g.fate) t → GoesToInput s d g.fate → HasCome g header payload → length payload ≤ len_in header → Consists stream taken (header ++ (payload ++ v.rest))
          → ((k == 0) ≡ true → (v.rest ≡ []) × (length payload < len_in header)) → LeavesAt (go_on t d v g k).0
      go_on_so t g k payload w goes come most cons short =
          let over : Device = record v { present = None } in
          let now : Device = record v { present = Some g } in
          let old : Device = w.there.0 in
          let last = walk_device taken header payload (matched_to g.fate) t over w in
          let ends = λ (truncated : Bool) (m : ℕ) (why : (length payload ≡ len_in header) ⊎ (v.rest ≡ [])) (cut : truncated ≡ nat_lt (length payload) (len_in header)).
          complete_so header payload (set_device t d over) (over_at payload t old w.there.1 cons (ended header payload v.rest come.valid most why)) (soon_at t old over refl w.there.1) g truncated m g.fate goes come refl cut last in
          cond_both (k == 0) _ _ (λ (x : Outcome). LeavesAt x.0)
          (λ none. let why = short none in ends true 0 (inr why.0) (sym (lt-ltb (length payload) (len_in header) why.1)))
          (λ _. cond_both (g.moved == g.len) (complete (set_device t d over) d g false k g.fate) (set_device t d now, reply.Got k) (λ (x : Outcome). LeavesAt x.0)
          (λ whole.
          let same : length payload ≡ len_in header = sym come.moved ∙ eqb-true g.moved g.len whole ∙ come.len in
          ends false k (inl same) (grind (arith, nat_tests, same)))
          (λ _. stay_so header payload (matched_to g.fate) (set_device t d now) (walk_device taken header payload (matched_to g.fate) t now w)
          (subst (λ x. IfSome x (Reads stream taken header payload)) (sym (set_at t now old w.there.1)) (cons, come)) (soon_at t old now refl w.there.1)))

    kept_on : (old new : List ℕ) (fate : Fate) → kept old fate ++ kept new fate ≡ kept (old ++ new) fate
    kept_on old new Skipped = refl
    kept_on old new (Matched k) = refl
    kept_on old new Gathering = refl

    landed_so : (header payload : List ℕ) (aim : Option ℕ) (t : State) (u : Transfer) (x : ℕ) (bytes : List ℕ) (region : Option ℕ) → Walks taken header payload aim t → Walks taken header payload aim (landed t u x bytes region)
    landed_so header payload aim t u x bytes None w = w
    landed_so header payload aim t u x bytes (Some r) w = record { next = w.next; order = w.order; each = w.each; there = w.there; others = w.others }

    land_in_so : (header payload : List ℕ) (t : State) (k x : ℕ) (bytes : List ℕ) (found : Option Transfer) → pending t k ≡ found → IsInput s d k → early ≡ true → x ≡ length payload → Walks taken header payload (Some k) t → Walks taken header (payload ++ bytes) (Some k) (land_in t x bytes found)
    land_in_so header payload t k x bytes None e is soon at w =
        let none = none_found (is_numbered k) t.transfers e in
        record {
          next = w.next;
          order = w.order;
          each = λ i c lt. let u = get_or t.transfers i c in land_beside s d early Q k is taken header payload (payload ++ bytes) u (none_has (is_numbered k) u t.transfers (has_at t.transfers i c lt) none) (w.each i c lt);
          there = w.there;
          others = w.others;
        }
    land_in_so header payload t k x bytes (Some u) e is soon at w =
        let number : k ≡ u.number = sym (eqb-true u.number k (find_has (is_numbered k) t.transfers u e).1) in
        let here = subst (IsInput s d) number is in
        subst (λ n. Walks taken header (payload ++ bytes) (Some n) (land_in t x bytes (Some u))) (sym number)
        (walk_change taken taken header payload header (payload ++ bytes) (Some u.number) (Some u.number) (landed t u x bytes (landing u)) u.number (after_receiving x bytes) (λ y. ⊤) (λ y. refl) (λ i c lt. tt)
        (λ y same _ o. land_one s d early Q u.number here taken header payload x bytes y soon at same o) (λ y other o. land_beside s d early Q u.number here taken header payload (payload ++ bytes) y other o)
        (landed_so header payload (Some u.number) t u x bytes (landing u) (subst (λ n. Walks taken header payload (Some n) t) number w)))

    -- payload comes
    land_so : (header payload : List ℕ) (t : State) (x : ℕ) (bytes : List ℕ) (kind : Kind) (fate : Fate) → is_early kind ≡ early → IsTrue (may_become kind fate) → GoesToInput s d fate → x ≡ length payload → Walks taken header payload (matched_to fate) t → Walks taken header (payload ++ bytes) (matched_to fate) (land t x bytes fate)
    land_so header payload t x bytes kind Skipped soon may goes at w = walk_each taken header payload None taken header (payload ++ bytes) None t (λ u o. frame_one s d early Q taken header payload header (payload ++ bytes) None u (λ m here. none_some u.number (o.aims m here)) o) w
    land_so header payload t x bytes kind Gathering soon may goes at w = walk_each taken header payload None taken header (payload ++ bytes) None t (λ u o. frame_one s d early Q taken header payload header (payload ++ bytes) None u (λ m here. none_some u.number (o.aims m here)) o) w
    land_so header payload t x bytes kind (Matched k) soon may goes at w = land_in_so header payload t k x bytes (pending t k) refl goes (sym soon ∙ may) at w

    none_dropped : (n : ℕ) (xs : List ℕ) → xs ≡ [] → drop n xs ≡ []
    none_dropped zero xs e = e
    none_dropped (suc n) [] e = refl
    none_dropped (suc n) (x ∷ xs) e = absurd (cc)

    payload_so : (t : State) (v : Device) (g : Datagram) (h b : ℕ) (header payload : List ℕ) → is_early v.kind ≡ early → v.header ≡ [] → IsTrue (may_become v.kind g.fate) → Walks taken header payload (matched_to g.fate) t → GoesToInput s d g.fate → HasCome g header payload → length payload + b ≤ len_in header
        → Consists stream taken (header ++ (payload ++ v.rest)) → (h + b ≡ 0 → (v.rest ≡ []) × (length payload < len_in header)) → LeavesAt (take_payload t d v g h b).0
    payload_so t v g h b header payload soon empty may w goes come fit cons short =
        let bytes : List ℕ = take b v.rest in
        let few = length-take b v.rest in
        let long = length-append payload bytes in
        go_on_so (record v { rest = drop b v.rest }) header soon empty (land t g.moved bytes g.fate) (after_bytes bytes g) (h + b) (payload ++ bytes)
        (land_so header payload t g.moved bytes v.kind g.fate soon may goes come.moved w) goes
        (record { valid = come.valid; port = come.port; flow = come.flow; len = come.len; moved = ap (λ n. n + length bytes) come.moved ∙ sym long; bytes = ap (λ l. l ++ kept bytes g.fate) come.bytes ∙ kept_on payload bytes g.fate })
        (omega (arith, few, long, fit)) (subst (Consists stream taken) (come_on header payload v.rest b) cons)
        (λ none. let sum = eqb-true (h + b) 0 none in let why = short sum in let less = why.1 in (none_dropped b v.rest why.0, omega (arith, few, long, sum, less)))

    -- a record begins
    module _ (old : List ℕ) (at : Device) (is : entry s.devices d ≡ Some at) (w : Walks taken old [] None s) where
      framed : (header : List ℕ) → Walks taken header [] None s
      framed header = walk_each taken old [] None taken header [] None s (λ u o. frame_one s d early Q taken old [] header [] None u (λ m here. none_some u.number (o.aims m here)) o) w

      new_come : (header : List ℕ) (fate : Fate) → kept [] fate ≡ [] → IsHeader header → HasCome (datagram header fate) header []
      new_come header fate none valid = record { valid = valid; port = refl; flow = refl; len = refl; moved = refl; bytes = sym none }

      match_so : (left : ℕ) (v : Device) (header : List ℕ) (h : ℕ) (first : Option ℕ) → first_posted s d (port_in header) (flow_in header) ≡ first → is_early v.kind ≡ early → is_early v.kind ≡ true → v.header ≡ [] → IsHeader header → 1 ≤ h → Consists stream taken (header ++ v.rest) → LeavesAt (match_header s d left v header h first).0
      match_so left v header h None e soon now_early empty valid some cons = cond_both (len_in header == 0) None (Some (datagram header Skipped)) (λ x. LeavesAt (set_device s d (record v { present = x })))
          (λ none.
          let over : Device = record v { present = None } in
          let long : length {A = ℕ} [] ≡ len_in header = sym (eqb-true (len_in header) 0 none) in
          nobody_so header [] (set_device s d over) (over_at v header soon empty [] s at is cons (ended header [] v.rest valid (omega (arith, long)) (inl long))) (soon_at v header soon empty s at over refl is) (walk_device taken header [] None s over (framed header)))
          (λ _.
          let now : Device = record v { present = Some (datagram header Skipped) } in
          stay_so header [] None (set_device s d now) (walk_device taken header [] None s now (framed header)) (subst (λ x. IfSome x (Reads stream taken header [])) (sym (set_at s now at is)) (cons, new_come header Skipped refl valid)) (soon_at v header soon empty s at now refl is))
      match_so left v header h (Some k) e soon now_early empty valid some cons =
          let one = first_one s d early Q taken old [] None (port_in header) (flow_in header) s k w.order w.each e in
          let begun = walk_change taken taken old [] header [] None (Some k) s k (with_phase Moving) (λ x. (x.number == k) ≡ true → awaits d (port_in header) (flow_in header) x ≡ true) (λ x. refl) one.waits
          (λ x y waits o. begin_one s d early Q k one.is taken header [] old [] x y (waits y) o) (λ x n o. begin_beside s d early Q k one.is taken header [] old [] x n o) w in
          payload_so (change_transfer s k (with_phase Moving)) v (datagram header (Matched k)) h _ header [] soon empty now_early begun one.is (new_come header (Matched k) refl valid) (omega arith) cons (λ none. absurd (omega (arith, none, some)))

      begin_so : (left : ℕ) (v : Device) (header : List ℕ) (h : ℕ) → is_early v.kind ≡ early → v.header ≡ [] → IsHeader header → 1 ≤ h → Consists stream taken (header ++ v.rest) → LeavesAt (begin_datagram s d left v header h).0
      begin_so left v header h soon empty valid some cons = cond_both (is_early v.kind) _ _ (λ (x : Outcome). LeavesAt x.0)
          (λ yes. match_so left v header h (first_posted s d (port_in header) (flow_in header)) refl soon yes empty valid some cons)
          (λ late. payload_so s v (datagram header Gathering) h _ header [] soon empty (not_from_false (is_early v.kind) late) (framed header) tt (new_come header Gathering refl valid) (omega arith) cons (λ none. absurd (omega (arith, none, some))))

      read_so : (left : ℕ) (v : Device) (header : List ℕ) (h : ℕ) → is_early v.kind ≡ early → v.present ≡ None → length header ≡ size_of_header header → 1 ≤ h → Consists stream taken (header ++ v.rest) → LeavesAt (read_header s d left v header h).0
      read_so left v header h soon none whole some cons = cond_both (is_valid_header (most v.kind s.config.page) header) _ _ (λ (x : Outcome). LeavesAt x.0)
          (λ valid. begin_so left (record v { header = [] }) header h soon refl (record { whole = whole; format = (and_parts (is_format (slice_index header 0) (slice_index header 1)) (nat_le (len_in header) (most v.kind s.config.page)) valid).0 }) some cons)
          (λ _.
          let bad : Device = record v { header = []; is_bad = true } in
          stay_so header [] None (set_device s d bad) (walk_device taken header [] None s bad (framed header))
          (subst (λ x. IfSome x (Reads stream taken header [])) (sym (set_at s bad at is)) (cons, rw none (refl, λ e. absurd (true≢false e)))) (soon_at (record v { header = [] }) header soon refl s at bad refl is))

      some_taken : (xs ys : List ℕ) (h : ℕ) → is_whole_header xs ≡ false → is_whole_header (xs ++ take h ys) ≡ true → 1 ≤ h
      some_taken xs ys zero part whole = absurd (true≢false (sym whole ∙ ap is_whole_header (append-nil xs) ∙ part))
      some_taken xs ys (suc h) part whole = omega arith

      take_so : (n : ℕ) (v : Device) → is_early v.kind ≡ early → v.present ≡ None → is_whole_header v.header ≡ false → Consists stream taken (v.header ++ v.rest) → LeavesAt (take_header s d n v (header_taken n v.header v.rest)).0
      take_so n v soon none part cons =
          let h : ℕ = header_taken n v.header v.rest in
          let header : List ℕ = v.header ++ take h v.rest in
          let after : Device = record v { rest = drop h v.rest; header = header } in
          let split : v.header ++ v.rest ≡ header ++ drop h v.rest = ap (λ l. v.header ++ l) (sym (take-append-drop h v.rest)) ∙ sym (append_assoc v.header (take h v.rest) (drop h v.rest)) in
          let left = subst (Consists stream taken) split cons in
          cond_both (is_whole_header header) _ _ (λ (x : Outcome). LeavesAt x.0)
          (λ whole. read_so _ after header h soon none (whole_length n v.header v.rest part whole) (some_taken v.header v.rest h part whole) left)
          (λ yet. stay_so header [] None (set_device s d after) (walk_device taken header [] None s after (framed header))
          (subst (λ x. IfSome x (Reads stream taken header [])) (sym (set_at s after at is)) (left, rw none (refl, λ _. (refl, yet)))) (soon_at (record v { header = [] }) header soon refl s at after refl is))

known : (s : State) → IsOrderly s → All (IsKnown s) s.transfers
known s o = λ i e lt.
    let t = get_or s.transfers i e in
    let there = has_at s.transfers i e lt in
    record {
      posted = λ p. (o.transfers.below i e lt, λ j c within same. subst (λ (u : Transfer). (is_inward u.direction ≡ true) × (u.device ≡ t.device)) (same_number s.transfers o.transfers.order t (get_or s.transfers j c) there (has_at s.transfers j c within) (sym same)) (o.posted i e lt p, refl));
      input = λ d is. is.1 i e lt refl;
    }

nothing_left : (xs : List ℕ) → length xs ≡ 0 → xs ≡ []
nothing_left [] e = refl
nothing_left (x ∷ xs) e = absurd (omega (arith, e))

module _ (s : State) (d : ℕ) (stream : List ℕ) (Q : Transfer → Type 0) (taken : List Taken) (o : IsOrderly s) (has : HasTaken stream d taken s) (other : All (λ (u : Transfer). u.device ≢ d → Q u) s.transfers) where
  begun : (v : Device) → entry s.devices d ≡ Some v → (aim : Option ℕ) → receives_for (Some v) ≡ aim → Walk s d (is_early_at s d) Q taken has.header has.payload aim s
  begun v is aim at = record {
    next = refl;
    order = o.transfers.order;
    each = λ i c lt.
        let u = get_or s.transfers i c in
        let one = known s o i c lt in
        record {
          known = one;
          own = has.inputs i c lt;
          aims = λ m here. sym at ∙ ap receives_for (sym is) ∙ ap (λ e. receives_for (entry s.devices e)) (sym here) ∙ o.moving i c lt m;
          moves = λ same.
              let for : receives_for (entry s.devices d) ≡ Some u.number = ap receives_for is ∙ at ∙ same in
              let here = (one.input d (received_input s d (entry s.devices d) u.number (o.matched d) for)).1 in
              o.received i c lt (ap (λ e. receives_for (entry s.devices e)) here ∙ for);
          other = other i c lt;
        };
    there = (v, is);
    others = λ e n. refl;
  }

  same_so : Leaves s d stream Q taken s
  same_so = record { more = []; few = omega arith; has = subst (λ l. HasTaken stream d l s) (sym (append-nil taken)) has; next = refl; other = other; others = λ e n. refl }

  record_so : (n : ℕ) (v : Device) → entry s.devices d ≡ Some v → 1 ≤ n → v.is_bad ≡ false → (present : Option Datagram) → v.present ≡ present → Reads stream taken has.header has.payload v → IfSome present (IsUnderWay s d) → IfSome present (SuitsDevice s.config.page v) → Leaves s d stream Q taken (receive_record s d n v present).0
  record_so n v is some fine None e reads under suits =
      let next = subst (λ x. HasOfNext v.is_bad v.header x has.header has.payload) e reads.1 in
      let part = next.1 fine in
      take_so s d stream (is_early_at s d) Q taken has.calls has.apart has.header v is
      (subst (λ p. Walk s d (is_early_at s d) Q taken has.header p None s) next.0 (begun v is None (ap (λ x. option_and_then (λ (g : Datagram). matched_to g.fate) x) e))) n v (ap early_device (sym is)) e
      (ap is_whole_header (sym part.0) ∙ part.1) (subst (λ l. Consists stream taken (l ++ v.rest)) part.0 (subst (λ p. Consists stream taken (has.header ++ (p ++ v.rest))) next.0 reads.0))
  record_so n v is some fine (Some g) e reads under suits =
      let come = subst (λ x. HasOfNext v.is_bad v.header x has.header has.payload) e reads.1 in
      let left = under.left in
      let moved = come.moved in
      let len = come.len in
      payload_so s d stream (is_early_at s d) Q taken has.calls has.apart s v g 0 _ has.header has.payload (ap early_device (sym is)) suits.header suits.fate
      (begun v is (matched_to g.fate) (ap (λ x. option_and_then (λ (y : Datagram). matched_to y.fate) x) e)) under.input come (omega (arith, left, moved, len)) reads.0
      (λ none. (nothing_left v.rest (omega (arith, none, some, left)), omega (arith, left, moved, len)))

  receive_so : (n : ℕ) (x : Option Device) → entry s.devices d ≡ x → 1 ≤ n → IfSome x (Reads stream taken has.header has.payload) → IfSome x (λ (v : Device). IfSome v.present (IsUnderWay s d)) → IfSome x (λ (v : Device). IfSome v.present (SuitsDevice s.config.page v)) → Leaves s d stream Q taken (receive s d n x).0
  receive_so n None is some reads goes suits = same_so
  receive_so n (Some v) is some reads goes suits = cond_both v.is_bad _ _ (λ (x : Outcome). Leaves s d stream Q taken x.0) (λ _. same_so)
      (λ fine. choice (Leaves s d stream Q taken) (is_busy s d v) _ _ same_so (record_so n v is some fine v.present refl reads goes suits))

  pub recv_so : (n : ℕ) → 1 ≤ n → Leaves s d stream Q taken (recv s d n).0
  recv_so n some = receive_so n (entry s.devices d) refl some has.device (o.matched d) (o.datagrams d)
