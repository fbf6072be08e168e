-- Hosts whose script and device files were opened, in order.
use Rattle.std.proofs.Common.{◌≡◌, ℕ, ◌+◌, ◌≤◌, length, List, [], ◌∷◌, ◌++◌, refl, ap, sym, ◌∙◌, append_assoc, append-nil, arith, subst}
use Rattle.std.specs.Prelude.{Option, Some, None, Ok, Err, flat_map}
use Rattle.std.specs.Io.KnownBytes.{Keeps}
use Rattle.genie_base.specs.declared.semantics.Direction.TheVariants.{Inward}
use Rattle.genie_host.specs.Host.{HostView, HandleState, OnlyHandle, Opens, Reading}
use Rattle.genie_script.specs.declared.line.DeviceLine.{DeviceLine}
use Rattle.genie_replay.specs.Files.{HoldsOfInputs, HoldsOfOutputs, IsFresh, IsFreshFor, IsFreshInput, IsFreshOutput, IsReading, IsSameHandle, IsUnwritten, IsWriting, KeptBehind, KeptUpTo, OnlyReads, Opening, OpensAll, last_handle, openings_of}
use Rattle.genie_replay.specs.Outcome.{CutShort, RanNothing, openings}
use Rattle.genie_replay.specs.Lemmas.Filing.{fresh_unwritten, inputs_map, outputs_all, outputs_both, outputs_map, outputs_within}

pub keeps_same : (k : Option (List ℕ)) → Keeps k k
keeps_same None = tt
keeps_same (Some x) = refl

-- the script was opened at most, and nothing else changed
pub record OnlyScript (script : List ℕ) (old new : HostView) : Type 0 where
  pub replies : new.handle 0 ≡ old.handle 0
  pub tried : new.tried ≡ old.tried ++ (script, Inward) ∷ []
  pub few : new.opened ≤ 1
  pub behind : KeptBehind 1 old new

pub script_refused : {E : Type 0} (script : List ℕ) (content : Option (List ℕ)) (e x : E) (old new : HostView) → old.opened ≡ 0 → Opens script Inward Reading content e old new (Err x) → OnlyScript script old new
script_refused script content e x old new none a =
    let count : new.opened ≡ old.opened = a.refused.0 in
    record { replies = a.others 0 (λ s. omega (arith, s)); tried = a.tried; few = omega arith; behind = λ k high. a.others k (λ s. omega (arith, s, high, none)) }

pub script_read : {E : Type 0} (script : List ℕ) (content : Option (List ℕ)) (e : E) (h : ℕ) (old first mid : HostView) → old.opened ≡ 0 → Opens script Inward Reading content e old first (Ok h) → OnlyHandle 1 first mid → OnlyScript script old mid
script_read script content e h old first mid none a b =
    let count : mid.opened ≡ 1 = b.opened ∙ a.opened ∙ ap (λ n. n + 1) none in
    record {
      replies = b.others 0 (λ x. cc) ∙ a.others 0 (λ x. omega (arith, x));
      tried = b.tried ∙ a.tried;
      few = omega arith;
      behind = λ k high. b.others k (λ s. omega (arith, s, high)) ∙ a.others k (λ s. omega (arith, s, high, none));
    }

-- the files are open, and nothing was written
pub record Opened (script : List ℕ) (ds : List DeviceLine) (old read new : HostView) : Type 0 where
  pub replies : new.handle 0 ≡ old.handle 0
  pub input : new.handle 1 ≡ read.handle 1
  pub outputs : HoldsOfOutputs (IsFresh old new) 1 ds
  pub inputs : HoldsOfInputs (IsFreshFor old new) 1 ds
  pub tried : new.tried ≡ old.tried ++ openings script ds
  pub none : old.opened ≡ 0
  pub count : new.opened ≡ last_handle 1 ds

pub opened : {E : Type 0} (script : List ℕ) (ds : List DeviceLine) (content : Option (List ℕ)) (e : E) (h : ℕ) (old first read new : HostView) → old.opened ≡ 0
    → Opens script Inward Reading content e old first (Ok h) → OnlyHandle 1 first read → OpensAll (flat_map openings_of ds) read new → KeptUpTo read.opened read new → HoldsOfOutputs (IsFresh read new) read.opened ds → HoldsOfInputs (IsFreshFor read new) read.opened ds → Opened script ds old read new
opened script ds content e h old first read new none a b d kept fresh inputs =
    let count : read.opened ≡ 1 = b.opened ∙ a.opened ∙ ap (λ n. n + 1) none in
    let replies : read.handle 0 ≡ old.handle 0 = (script_read script content e h old first read none a b).replies in
    record {
      replies = kept 0 (omega arith) ∙ replies;
      input = kept 1 (omega (arith, count));
      outputs = outputs_map (IsFresh read new) (IsFresh old new) 1 ds (λ n k later q. subst (λ (x : HandleState). IsFreshOutput x.bytes (new.handle k)) replies q) (rw count at fresh);
      inputs = inputs_map (IsFreshFor read new) (IsFreshFor old new) 1 ds (λ name k later q. subst (λ (n : List ℕ → Option (List ℕ)). IsFreshInput (n name) (new.handle k)) (b.names ∙ a.names) q) (rw count at inputs);
      tried = d.tried ∙ ap (λ t. t ++ flat_map openings_of ds) (b.tried ∙ a.tried) ∙ append_assoc old.tried _ _;
      none = none;
      count = d.opened ∙ ap (λ n. n + length (flat_map openings_of ds)) count;
    }

pub opened_writing : (script : List ℕ) (ds : List DeviceLine) (old read new : HostView) → Opened script ds old read new → HoldsOfOutputs (IsWriting new) 1 ds
opened_writing script ds old read new o = outputs_map (IsFresh old new) (IsWriting new) 1 ds (λ n h later f. f.mode) o.outputs

pub opened_reading : (script : List ℕ) (ds : List DeviceLine) (old read new : HostView) → Opened script ds old read new → HoldsOfInputs (IsReading new) 1 ds
opened_reading script ds old read new o = inputs_map (IsFreshFor old new) (IsReading new) 1 ds (λ name h later f. f.mode) o.inputs

-- the outputs are still fresh where the inputs were read
pub still_fresh : (script : List ℕ) (ds : List DeviceLine) (old read new mid : HostView) → Opened script ds old read new → OnlyReads ds new mid → HoldsOfOutputs (IsFresh old mid) 1 ds
still_fresh script ds old read new mid o b = outputs_both (IsFresh old new) (IsSameHandle new mid) (IsFresh old mid) 1 ds (λ n h f same. rw same f) o.outputs b.outputs

-- nothing was read
pub read_nothing : (ds : List DeviceLine) (v : HostView) → OnlyReads ds v v
read_nothing ds v = record { replies = refl; outputs = outputs_all (IsSameHandle v v) 1 ds (λ n h later. refl); tried = refl; opened = refl }

-- cut short behind the openings, or among them
pub short_read : (script : List ℕ) (ds : List DeviceLine) (old read new end : HostView) → Opened script ds old read new → OnlyReads ds new end → CutShort script ds old end
short_read script ds old read new end o c =
    let none : old.opened ≡ 0 = o.none in
    let count : end.opened ≡ last_handle 1 ds = c.opened ∙ o.count in
    record {
      written = rw (c.replies, o.replies) (keeps_same (old.handle 0).bytes);
      tried = record {
        front = openings script ds;
        rest = [];
        split = sym (append-nil (openings script ds));
        tried = c.tried ∙ o.tried;
        opened = omega (arith, count);
        refused = omega (arith, count, none);
      };
      begun = λ e. cc;
      outputs = outputs_both (λ n h. h ≤ last_handle 1 ds) (IsFresh old end) (IsUnwritten old end) 1 ds (λ n h low f. fresh_unwritten old end n h (omega (arith, low, count)) f) (outputs_within 1 ds) (still_fresh script ds old read new end o c);
    }

pub short_opening : {E F T : Type 0} (script : List ℕ) (ds : List DeviceLine) (content : Option (List ℕ)) (e : E) (f x : F) (h : ℕ) (old first read end : HostView) → old.opened ≡ 0
    → Opens script Inward Reading content e old first (Ok h) → OnlyHandle 1 first read → Opening {T = T} f (flat_map openings_of ds) read end (Err x) → HoldsOfOutputs (IsUnwritten read end) read.opened ds → CutShort script ds old end
short_opening script ds content e f x h old first read end none a b c unwritten =
    let only = script_read script content e h old first read none a b in
    let count : read.opened ≡ 1 = b.opened ∙ a.opened ∙ ap (λ n. n + 1) none in
    let some = c.tried in
    record {
      written = rw (c.kept 0 (omega arith), only.replies) (keeps_same (old.handle 0).bytes);
      tried = record {
        front = (script, Inward) ∷ some.front;
        rest = some.rest;
        split = ap (λ l. (script, Inward) ∷ l) some.split;
        tried = some.tried ∙ ap (λ t. t ++ some.front) only.tried ∙ append_assoc old.tried _ _;
        opened = omega (arith, count, none, some.opened);
        refused = omega (arith, count, none, some.refused);
      };
      begun = λ e. cc;
      outputs = outputs_map (IsUnwritten read end) (IsUnwritten old end) 1 ds (λ n k later q. record {
        fresh = λ low. subst (λ (x : HandleState). IsFreshOutput x.bytes (end.handle k)) only.replies (q.fresh low);
        closed = λ high. q.closed high ∙ only.behind k later;
      }) (subst (λ n. HoldsOfOutputs (IsUnwritten read end) n ds) count unwritten);
    }

-- nothing but the script was opened
pub ran_nothing : (script : List ℕ) (old new : HostView) → OnlyScript script old new → RanNothing script old new
ran_nothing script old new o = record { written = rw o.replies (keeps_same (old.handle 0).bytes); tried = o.tried }
