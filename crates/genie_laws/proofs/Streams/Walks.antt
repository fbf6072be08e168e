-- What a receive step makes of the inputs of its device, while the payload of a record comes.
use Rattle.std.proofs.Common.{◌≡◌, ◌≢◌, ℕ, zero, suc, ◌-◌, ◌<◌, Bool, true, false, List, [], ◌∷◌, ◌++◌, length, take, get_or, find, All, AllPairs, refl, sym, ap, ap₂, subst, ◌∙◌, true≢false, eqb-true, eq-eqb, arith}
use Rattle.std.specs.Prelude.{Option, Some, None, not, ◌&&◌, ◌==◌, nat_lt, if◌then◌else◌}
use Rattle.std.specs.Option.{option_map}
use Rattle.std.proofs.lemmas.Bool.{and_parts}
use Rattle.std.proofs.lemmas.List.{length-append, length-take}
use Rattle.std.proofs.lemmas.List.Quantifiers.{Any-push}
use Rattle.genie_base.specs.Headers.{port_in, len_in, flow_in}
use Rattle.genie_base.specs.Posted.{meets, meets_flow}
use Rattle.genie_base.specs.Transfers.{is_strong}
use Rattle.genie_model.specs.declared.phase.Phase.{Phase}
use Rattle.genie_model.specs.declared.phase.Phase.TheVariants.{Queued, Posted, Moving, Ready}
use Rattle.genie_model.specs.State.{State, Transfer}
use Rattle.genie_model.specs.Pending.{is_inward, is_posted, is_moving, posted_for, awaits, first_posted}
use Rattle.genie_model.specs.Receiving.{with_phase, with_datagram, gathered, after_receiving, note_of}
use Rattle.genie_model.specs.Lemmas.Lists.{has_at, all_has, find_has}
use Rattle.genie_model.specs.Lemmas.SendQueues.{same_number}
use Rattle.genie_orderly.specs.Orderly.{IsInput}
use Rattle.genie_laws.specs.Streams.{Taken, HasFront, HasGot, WentElsewhere, HasBytes, IsServed}
use Rattle.genie_laws.proofs.Streams.Records.{take_on, any_before, elsewhere_more}

-- what is known of a transfer later in the step that began in state s
pub record IsKnown (s : State) (t : Transfer) : Type 0 where
  pub posted : is_posted t.phase ≡ true → IsInput s t.device t.number
  pub input : (e : ℕ) → IsInput s e t.number → (is_inward t.direction ≡ true) × (t.device ≡ e)

-- what is so of a transfer while this much of the next record has come, and device d is said to receive for `aim`; of
-- those of other devices Q
pub record IsOne (s : State) (d : ℕ) (early : Bool) (Q : Transfer → Type 0) (taken : List Taken) (header payload : List ℕ) (aim : Option ℕ) (u : Transfer) : Type 0 where
  pub known : IsKnown s u
  pub own : IsServed early taken header payload d u
  pub aims : is_moving u.phase ≡ true → u.device ≡ d → aim ≡ Some u.number
  pub moves : aim ≡ Some u.number → is_moving u.phase ≡ true
  pub other : u.device ≢ d → Q u

none_taken : (n : ℕ) → take {A = ℕ} n [] ≡ []
none_taken zero = refl
none_taken (suc n) = refl

pub none_some : (k : ℕ) → None ≡ Some k → ⊥
none_some k e = cc

pub same_some : (k n : ℕ) → Some k ≡ Some n → (n == k) ≡ false → ⊥
same_some k n e other = let same : n ≡ k = cc in true≢false (sym (eq-eqb n k same) ∙ other)

-- what it has in each phase
module _ (early : Bool) (taken : List Taken) (header payload : List ℕ) (t : Transfer) where
  posted_has : (phase : Phase) → is_posted phase ≡ true → HasBytes early taken header payload t phase → (t.payload ≡ []) × (t.stored ≡ 0) × WentElsewhere taken t.number
  posted_has Queued e h = absurd (true≢false (sym e))
  posted_has Posted e h = h
  posted_has Moving e h = absurd (true≢false (sym e))
  posted_has Ready e h = absurd (true≢false (sym e))

  pub moving_has : (phase : Phase) → is_moving phase ≡ true → HasBytes early taken header payload t phase → HasFront early t header payload × WentElsewhere taken t.number
  moving_has Queued e h = absurd (true≢false (sym e))
  moving_has Posted e h = absurd (true≢false (sym e))
  moving_has Moving e h = h
  moving_has Ready e h = absurd (true≢false (sym e))

  moving_so : (phase : Phase) → is_moving phase ≡ true → HasFront early t header payload → WentElsewhere taken t.number → HasBytes early taken header payload t phase
  moving_so Queued e f w = absurd (true≢false (sym e))
  moving_so Posted e f w = absurd (true≢false (sym e))
  moving_so Moving e f w = (f, w)
  moving_so Ready e f w = absurd (true≢false (sym e))

  -- where it isn't receiving, what comes of the next record doesn't matter
  unmoved : (next more : List ℕ) (phase : Phase) → (is_moving phase ≡ true → ⊥) → HasBytes early taken header payload t phase → HasBytes early taken next more t phase
  unmoved next more Queued idle h = h
  unmoved next more Posted idle h = h
  unmoved next more Moving idle h = absurd (idle refl)
  unmoved next more Ready idle h = h

  -- nor a record that doesn't go to it
  elsewhere : (r : Taken) (phase : Phase) → (is_moving phase ≡ true → ⊥) → r.input ≢ Some t.number → HasBytes early taken header payload t phase → HasBytes early (taken ++ r ∷ []) [] [] t phase
  elsewhere r Queued idle other h = h
  elsewhere r Posted idle other h = (h.0, h.1, elsewhere_more taken r t.number h.2 other)
  elsewhere r Moving idle other h = absurd (idle refl)
  elsewhere r Ready idle other h = any_before (HasGot early t) taken r h

-- a strong one appends what fits, and a weak one on an early device keeps nothing
appended : (early strong : Bool) (len x : ℕ) (old payload bytes : List ℕ) → early ≡ true → x ≡ length payload → ((early && not strong) ≡ false → old ≡ take len payload) → (early && not strong) ≡ false
    → (if strong then old ++ take (len - x) bytes else old) ≡ take len (payload ++ bytes)
appended true true len x old payload bytes e at h n = ap₂ (λ l m. l ++ take (len - m) bytes) (h n) at ∙ take_on len payload bytes
appended true false len x old payload bytes e at h n = absurd (true≢false n)
appended false strong len x old payload bytes e at h n = absurd (true≢false (sym e))

module _ (s : State) (d : ℕ) (early : Bool) (Q : Transfer → Type 0) where
  abbrev pub One : List Taken → List ℕ → List ℕ → Option ℕ → Transfer → Type 0
  One taken header payload aim u = IsOne s d early Q taken header payload aim u

  inward : (k : ℕ) → IsInput s d k → (u : Transfer) → (u.number == k) ≡ true → IsKnown s u → (is_inward u.direction ≡ true) × (u.device ≡ d)
  inward k is u e h = h.input d (subst (IsInput s d) (sym (eqb-true u.number k e)) is)

  -- only what comes of the next record changes, and it isn't receiving
  pub frame_one : (taken : List Taken) (header payload next more : List ℕ) (aim : Option ℕ) (u : Transfer) → (is_moving u.phase ≡ true → u.device ≡ d → ⊥) → One taken header payload aim u → One taken next more aim u
  frame_one taken header payload next more aim u idle o = record { known = o.known; own = λ i at. unmoved early taken header payload u next more u.phase (λ m. idle m at) (o.own i at); aims = o.aims; moves = o.moves; other = o.other }

  -- a record goes elsewhere
  pub past_one : (taken : List Taken) (header payload : List ℕ) (r : Taken) (aim : Option ℕ) (u : Transfer) → (is_moving u.phase ≡ true → u.device ≡ d → ⊥) → r.input ≢ Some u.number → One taken header payload aim u → One (taken ++ r ∷ []) [] [] None u
  past_one taken header payload r aim u idle other o = record {
    known = o.known;
    own = λ i at. elsewhere early taken header payload u r u.phase (λ m. idle m at) other (o.own i at);
    aims = λ m at. absurd (idle m at);
    moves = λ e. absurd (none_some u.number e);
    other = o.other;
  }

  module _ (k : ℕ) (is : IsInput s d k) (taken : List Taken) (header payload : List ℕ) where
    -- input k is matched
    pub begin_one : (old past : List ℕ) (u : Transfer) → (u.number == k) ≡ true → awaits d (port_in header) (flow_in header) u ≡ true → One taken old past None u → One taken header [] (Some k) (with_phase Moving u)
    begin_one old past u e waits o =
        let parts = and_parts (is_posted u.phase) (meets d (port_in header) (flow_in header) (posted_for u)) waits in
        let address = and_parts ((u.device == d) && (u.port == port_in header)) (meets_flow u.flow (flow_in header)) parts.1 in
        record {
          known = record { posted = λ p. absurd (true≢false (sym p)); input = o.known.input };
          own = λ i at. let has = posted_has early taken old past u u.phase parts.0 (o.own i at) in (
            record {
              port = eqb-true u.port (port_in header) (and_parts (u.device == d) (u.port == port_in header) address.0).1;
              flow = address.1;
              stored = has.1 ∙ ap length (sym (none_taken u.len));
              bytes = λ _. has.0 ∙ sym (none_taken u.len);
            },
            has.2,
          );
          aims = λ m at. ap Some (sym (eqb-true u.number k e));
          moves = λ _. refl;
          other = λ n. absurd (n (inward k is u e o.known).1);
        }

    pub begin_beside : (old past : List ℕ) (u : Transfer) → (u.number == k) ≡ false → One taken old past None u → One taken header [] (Some k) u
    begin_beside old past u n o = record {
      known = o.known;
      own = λ i at. unmoved early taken old past u header [] u.phase (λ m. none_some u.number (o.aims m at)) (o.own i at);
      aims = λ m at. absurd (none_some u.number (o.aims m at));
      moves = λ e. absurd (same_some k u.number e n);
      other = o.other;
    }

    -- bytes come for it
    pub land_one : (x : ℕ) (bytes : List ℕ) (u : Transfer) → early ≡ true → x ≡ length payload → (u.number == k) ≡ true → One taken header payload (Some k) u → One taken header (payload ++ bytes) (Some k) (after_receiving x bytes u)
    land_one x bytes u soon at e o =
        let moves = o.moves (ap Some (sym (eqb-true u.number k e))) in
        record {
          known = record { posted = o.known.posted; input = o.known.input };
          own = λ i here.
              let has = moving_has early taken header payload u u.phase moves (o.own i here) in
              moving_so early taken header (payload ++ bytes) (after_receiving x bytes u) u.phase moves (record {
                port = has.0.port;
                flow = has.0.flow;
                stored = omega (arith, at, length-take u.len (payload ++ bytes), length-append payload bytes);
                bytes = appended early (is_strong u.class) u.len x u.payload payload bytes soon at has.0.bytes;
              }) has.1;
          aims = o.aims;
          moves = o.moves;
          other = λ n. absurd (n (inward k is u e o.known).1);
        }

    pub land_beside : (more : List ℕ) (u : Transfer) → (u.number == k) ≡ false → One taken header payload (Some k) u → One taken header more (Some k) u
    land_beside more u n o = frame_one taken header payload header more (Some k) u (λ m at. same_some k u.number (o.aims m at) n) o

    abbrev gone : Taken
    gone = record { header = header; payload = payload; input = Some k }

    elsewhere_gone : (u : Transfer) → (u.number == k) ≡ false → gone.input ≢ Some u.number
    elsewhere_gone u n = λ e. same_some k u.number e n

    -- its datagram is over
    pub end_one : (truncated : Bool) (len : ℕ) (u : Transfer) → len ≡ len_in header → truncated ≡ nat_lt (length payload) (len_in header) → (u.number == k) ≡ true → One taken header payload (Some k) u → One (taken ++ gone ∷ []) [] [] None (with_datagram truncated len u)
    end_one truncated len u long cut e o =
        let number = ap Some (sym (eqb-true u.number k e)) in
        record {
          known = record { posted = λ p. absurd (true≢false (sym p)); input = o.known.input };
          own = λ i at.
              let has = (moving_has early taken header payload u u.phase (o.moves number) (o.own i at)).0 in
              Any-push (HasGot early (with_datagram truncated len u)) taken gone (record {
                input = number;
                front = record { port = has.port; flow = has.flow; stored = has.stored; bytes = has.bytes };
                note = ap₂ (λ b n. note_of b n u.len) cut long;
              });
          aims = λ m at. absurd (true≢false (sym m));
          moves = λ e. absurd (none_some u.number e);
          other = λ n. absurd (n (inward k is u e o.known).1);
        }

    pub end_beside : (aim : Option ℕ) (u : Transfer) → (is_moving u.phase ≡ true → u.device ≡ d → ⊥) → (u.number == k) ≡ false → One taken header payload aim u → One (taken ++ gone ∷ []) [] [] None u
    end_beside aim u idle n o = past_one taken header payload gone aim u idle (elsewhere_gone u n) o

    -- a datagram that was gathered is delivered to it
    pub deliver_one : (truncated : Bool) (len : ℕ) (bytes : List ℕ) (u : Transfer) → len ≡ len_in header → truncated ≡ nat_lt (length payload) (len_in header) → bytes ≡ payload → (u.number == k) ≡ true → awaits d (port_in header) (flow_in header) u ≡ true → One taken header payload None u
        → One (taken ++ gone ∷ []) [] [] None (gathered truncated len bytes u)
    deliver_one truncated len bytes u long cut same e waits o =
        let parts = and_parts (is_posted u.phase) (meets d (port_in header) (flow_in header) (posted_for u)) waits in
        let address = and_parts ((u.device == d) && (u.port == port_in header)) (meets_flow u.flow (flow_in header)) parts.1 in
        record {
          known = record { posted = λ p. absurd (true≢false (sym p)); input = o.known.input };
          own = λ i at. Any-push (HasGot early (gathered truncated len bytes u)) taken gone (record {
            input = ap Some (sym (eqb-true u.number k e));
            front = record {
              port = eqb-true u.port (port_in header) (and_parts (u.device == d) (u.port == port_in header) address.0).1;
              flow = address.1;
              stored = ap (λ l. length (take u.len l)) same;
              bytes = λ _. ap (take u.len) same;
            };
            note = ap₂ (λ b n. note_of b n u.len) cut long;
          });
          aims = λ m at. absurd (true≢false (sym m));
          moves = λ e. absurd (none_some u.number e);
          other = λ n. absurd (n (inward k is u e o.known).1);
        }

  awaits_here : (port : ℕ) (flow : Option ℕ) (u : Transfer) → awaits d port flow u ≡ true → (is_posted u.phase ≡ true) × (u.device ≡ d)
  awaits_here port flow u e =
      let parts = and_parts (is_posted u.phase) (meets d port flow (posted_for u)) e in
      (parts.0, eqb-true u.device d (and_parts (u.device == d) (u.port == port) (and_parts ((u.device == d) && (u.port == port)) (meets_flow u.flow flow) parts.1).0).0)

  -- the first posted input that a record meets: nothing went to it before
  pub record IsFirst (taken : List Taken) (port : ℕ) (flow : Option ℕ) (ts : List Transfer) (k : ℕ) : Type 0 where
    pub waits : All (λ (u : Transfer). (u.number == k) ≡ true → awaits d port flow u ≡ true) ts
    pub free : WentElsewhere taken k
    pub is : IsInput s d k

  is_first : (taken : List Taken) (header payload : List ℕ) (aim : Option ℕ) (port : ℕ) (flow : Option ℕ) (ts : List Transfer) (k : ℕ) → AllPairs (λ (t u : Transfer). t.number < u.number) ts → All (One taken header payload aim) ts
      → (found : Option Transfer) → find (awaits d port flow) ts ≡ found → option_map (λ (t : Transfer). t.number) found ≡ Some k → IsFirst taken port flow ts k
  is_first taken header payload aim port flow ts k order each None is e = absurd (none_some k e)
  is_first taken header payload aim port flow ts k order each (Some u) is e =
      let has = find_has (awaits d port flow) ts u is in
      let number : u.number ≡ k = cc in
      let here = awaits_here port flow u has.1 in
      let one = all_has (One taken header payload aim) ts each u has.0 in
      let posted = subst (λ e. IsInput s e u.number) here.1 (one.known.posted here.0) in
      record {
        waits = λ i c lt same. let w = get_or ts i c in subst (λ x. awaits d port flow x ≡ true) (same_number ts order u w has.0 (has_at ts i c lt) (number ∙ sym (eqb-true w.number k same))) has.1;
        free = subst (WentElsewhere taken) number (posted_has early taken header payload u u.phase here.0 (one.own (one.known.input d posted).0 here.1)).2;
        is = subst (IsInput s d) number posted;
      }

  pub first_one : (taken : List Taken) (header payload : List ℕ) (aim : Option ℕ) (port : ℕ) (flow : Option ℕ) (t : State) (k : ℕ) → AllPairs (λ (t u : Transfer). t.number < u.number) t.transfers → All (One taken header payload aim) t.transfers → first_posted t d port flow ≡ Some k → IsFirst taken port flow t.transfers k
  first_one taken header payload aim port flow t k order each e = is_first taken header payload aim port flow t.transfers k order each (find (awaits d port flow) t.transfers) refl e
