-- Reading the inputs.
use Rattle.std.proofs.Common.{◌≡◌, ◌≢◌, ℕ, ◌+◌, ◌<◌, ◌≤◌, List, [], ◌∷◌, ◌++◌, length, refl, ap, sym, ◌∙◌, arith, append-nil, subst, inl, inr}
use Rattle.std.specs.Prelude.{◌⊎◌, Option, Some, None, Ok, Err, Result, OnOk, IfSome}
use Rattle.std.proofs.lemmas.List.{length-append}
use Rattle.std.specs.Io.KnownBytes.{Consumes, IsAtEnd}
use Rattle.genie_base.specs.declared.semantics.Direction.TheVariants.{Inward, Outward}
use Rattle.genie_host.specs.Host.{HostView, HandleState, OnlyHandle}
use Rattle.genie_host.specs.OnlyHandle.{only_refl, only_trans}
use Rattle.genie_model.specs.Receiving.{with_input}
use Rattle.genie_model.specs.State.{State}
use Rattle.genie_script.specs.declared.line.DeviceLine.{DeviceLine}
use Rattle.genie_replay.specs.declared.inputs.Unread.{Unread}
use Rattle.genie_replay.specs.declared.inputs.Unread.TheVariants as unread
use Rattle.genie_replay.specs.Files.{HoldsOfFile, HoldsOfInputs, IsReading, IsSameHandle, KeptUpTo, OnlyReads, SameFaults, file_opening, last_handle, openings_of}
use Rattle.genie_replay.specs.Inputs.{Counts, HasInputs, ReadsInput, ReadsInputs, SetsInput, SetsInputs, Tells}
use Rattle.genie_replay.specs.Lemmas.Filing.{inputs_map, line_within, lines_within, only_faults, outputs_all, outputs_map, rose_after, same_faults, same_trans}
use Rattle.genie_replay.proofs.Reading.{consumes_more}

-- a file so far
pub record Gathered (handle : ℕ) (old now : HostView) (bytes : List ℕ) : Type 0 where
  pub only : OnlyHandle handle old now
  pub count : (now.handle handle).faults ≡ (old.handle handle).faults
  pub taken : Consumes (old.handle handle).bytes (now.handle handle).bytes bytes

nothing_taken : (k : Option (List ℕ)) → Consumes k k []
nothing_taken None = tt
nothing_taken (Some x) = refl

pub gathered_none : (handle : ℕ) (v : HostView) → Gathered handle v v []
gathered_none handle v = record { only = only_refl handle v; count = refl; taken = nothing_taken (v.handle handle).bytes }

pub gathered_more : (handle : ℕ) (old u w : HostView) (bytes more after : List ℕ) → Gathered handle old u bytes → OnlyHandle handle u w → (w.handle handle).faults ≡ (u.handle handle).faults → Consumes (u.handle handle).bytes (w.handle handle).bytes more → after ≡ bytes ++ more → Gathered handle old w after
gathered_more handle old u w bytes more after so only count taken is = rw is (record {
  only = only_trans handle old u w so.only only;
  count = count ∙ so.count;
  taken = consumes_more (old.handle handle).bytes (u.handle handle).bytes (w.handle handle).bytes bytes more so.taken taken;
})

-- the end was read: that was all
whole : (u v w : Option (List ℕ)) (bytes none : List ℕ) → Consumes u v bytes → Consumes v w none → none ≡ [] → IsAtEnd w → Tells u bytes
whole None v w bytes none a b e z = tt
whole (Some u) None w bytes none a b e z = absurd a
whole (Some u) (Some v) None bytes none a b e z = absurd b
whole (Some u) (Some v) (Some w) bytes none a b e z =
    let rest : v ≡ [] = b ∙ ap (λ l. l ++ w) e ∙ z in
    sym (a ∙ ap (λ l. bytes ++ l) rest ∙ append-nil bytes)

pub gathered_whole : (handle : ℕ) (old u w : HostView) (bytes none : List ℕ) → Gathered handle old u bytes → Consumes (u.handle handle).bytes (w.handle handle).bytes none → none ≡ [] → IsAtEnd (w.handle handle).bytes → Tells (old.handle handle).bytes bytes
gathered_whole handle old u w bytes none so taken is end = whole (old.handle handle).bytes (u.handle handle).bytes (w.handle handle).bytes bytes none so.taken taken is end

-- what one input's reading leaves of the others
pub input_others : (o : Option (List ℕ)) (n handle : ℕ) (machine after : Option State) (old mid : HostView) (r : Result (Unit {0}) Unread) → ReadsInput o n handle machine after old mid r → (h : ℕ) → h ≢ handle → mid.handle h ≡ old.handle h
input_others None n handle machine after old mid r i h other = rw i.0 refl
input_others (Some name) n handle machine after old mid r i h other = i.0.others h other

input_tried : (o : Option (List ℕ)) (n handle : ℕ) (machine after : Option State) (old mid : HostView) (r : Result (Unit {0}) Unread) → ReadsInput o n handle machine after old mid r → mid.tried ≡ old.tried
input_tried None n handle machine after old mid r i = rw i.0 refl
input_tried (Some name) n handle machine after old mid r i = i.0.tried

input_opened : (o : Option (List ℕ)) (n handle : ℕ) (machine after : Option State) (old mid : HostView) (r : Result (Unit {0}) Unread) → ReadsInput o n handle machine after old mid r → mid.opened ≡ old.opened
input_opened None n handle machine after old mid r i = rw i.0 refl
input_opened (Some name) n handle machine after old mid r i = i.0.opened

input_faults : (o : Option (List ℕ)) (n handle : ℕ) (machine after : Option State) (old mid : HostView) (u : Unit {0}) → ReadsInput o n handle machine after old mid (Ok u) → SameFaults old mid
input_faults None n handle machine after old mid u i = rw i.0 (same_faults old)
input_faults (Some name) n handle machine after old mid u i = only_faults handle old mid i.0 i.1

input_counts : (o : Option (List ℕ)) (n handle most : ℕ) (machine after : Option State) (old mid : HostView) (e : Unread) → (o ≡ None) ⊎ (handle ≤ most) → ReadsInput o n handle machine after old mid (Err e) → Counts most old mid (Err e)
input_counts None n handle most machine after old mid e which i = absurd i.2
input_counts (Some name) n handle most machine after old mid unread.Host (inl none) i = absurd (cc)
input_counts (Some name) n handle most machine after old mid unread.Host (inr low) i = (handle, low, i.1)
input_counts (Some name) n handle most machine after old mid unread.Memory which i = only_faults handle old mid i.0 i.1

input_set : (o : Option (List ℕ)) (n handle : ℕ) (s : State) (after : Option State) (old mid : HostView) (u : Unit {0}) → ReadsInput o n handle (Some s) after old mid (Ok u) → (m : State) × (after ≡ Some m) × SetsInput o n (old.handle handle).bytes s m
input_set None n handle s after old mid u i = (s, i.1, refl)
input_set (Some name) n handle s after old mid u i = let w = i.2 in (with_input s n w.bytes, w.is, record { bytes = w.bytes; tells = w.tells; is = refl })

-- this line's own output isn't its input
own_output : (d : DeviceLine) (o : Option (List ℕ)) → d.output ≡ o → (i : Option (List ℕ)) → d.input ≡ i → (opened : ℕ) (machine after : Option State) (old mid : HostView) (r : Result (Unit {0}) Unread)
    → ReadsInput i d.number (opened + 1) machine after old mid r → HoldsOfFile (IsSameHandle old mid) o d.number (opened + length (openings_of d))
own_output d None is i has opened machine after old mid r t = tt
own_output d (Some name) is None has opened machine after old mid r t = rw t.0 refl
own_output d (Some name) is (Some input) has opened machine after old mid r t =
    let two : length (openings_of d) ≡ 2 = ap (λ o. length (file_opening Inward d.input ++ file_opening Outward o)) is ∙ ap (λ i. length (file_opening Inward i ++ file_opening Outward (Some name))) has in
    t.0.others (opened + length (openings_of d)) (λ e. omega (arith, two, e))

sets_map : (old mid : HostView) (opened : ℕ) (ds : List DeviceLine) (s t : State) → ((h : ℕ) → opened < h → mid.handle h ≡ old.handle h) → SetsInputs mid opened ds s t → SetsInputs old opened ds s t
sets_map old mid opened [] s t f p = p
sets_map old mid opened (d ∷ ds) s t f p = (
  p.0,
  subst (λ (x : HandleState). SetsInput d.input d.number x.bytes s p.0) (f (opened + 1) (omega arith)) p.1,
  sets_map old mid (opened + length (openings_of d)) ds p.0 t (λ h later. f h (omega arith)) p.2,
)

still_reading : (o : Option (List ℕ)) (n opened last : ℕ) (ds : List DeviceLine) (machine after : Option State) (old mid : HostView) (r : Result (Unit {0}) Unread) → (o ≡ None) ⊎ (opened + 1 ≤ last) → ReadsInput o n (opened + 1) machine after old mid r → HoldsOfInputs (IsReading old) last ds → HoldsOfInputs (IsReading mid) last ds
still_reading None n opened last ds machine after old mid r which i p = rw i.0 p
still_reading (Some name) n opened last ds machine after old mid r (inl e) i p = absurd (cc)
still_reading (Some name) n opened last ds machine after old mid r (inr low) i p = inputs_map (IsReading old) (IsReading mid) last ds (λ k h later m. ap (λ (x : HandleState). x.mode) (i.0.others h (λ e. omega (arith, e, later, low))) ∙ m) p

-- with an input, a line has one file at least
with_input_file : (d : DeviceLine) (name : List ℕ) → d.input ≡ Some name → length (openings_of d) ≡ 1 + length (file_opening Outward d.output)
with_input_file d name is = ap (λ o. length (file_opening Inward o ++ file_opening Outward d.output)) is ∙ length-append ((name, Inward) ∷ []) (file_opening Outward d.output)

one_file : (d : DeviceLine) (o : Option (List ℕ)) → d.input ≡ o → (opened : ℕ) → (o ≡ None) ⊎ (opened + 1 ≤ opened + length (openings_of d))
one_file d None is opened = inl refl
one_file d (Some name) is opened = inr (omega (arith, with_input_file d name is))

input_within : (d : DeviceLine) (o : Option (List ℕ)) → d.input ≡ o → (opened : ℕ) (ds : List DeviceLine) → (o ≡ None) ⊎ (opened + 1 ≤ last_handle opened (d ∷ ds))
input_within d None is opened ds = inl refl
input_within d (Some name) is opened ds = inr (omega (arith, with_input_file d name is, line_within opened d ds))

-- a line's input is read before the files of later lines
pub reads_on : (d : DeviceLine) (opened count : ℕ) (all ds : List DeviceLine) (machine after : Option State) (old mid : HostView) (r : Result (Unit {0}) Unread)
    → all ≡ d ∷ ds → count ≡ length (openings_of d) → ReadsInput d.input d.number (opened + 1) machine after old mid r → HoldsOfInputs (IsReading old) opened all → HoldsOfInputs (IsReading mid) (opened + count) ds
reads_on d opened count all ds machine after old mid r is counted i p =
    let rest : HoldsOfInputs (IsReading old) (opened + length (openings_of d)) ds = (rw is at p).1 in
    rw counted (still_reading d.input d.number opened (opened + length (openings_of d)) ds machine after old mid r (one_file d d.input refl opened) i rest)

later_same : (d : DeviceLine) (o : Option (List ℕ)) → d.input ≡ o → (opened : ℕ) (machine after : Option State) (old mid : HostView) (r : Result (Unit {0}) Unread) → ReadsInput o d.number (opened + 1) machine after old mid r → (h : ℕ) → opened + length (openings_of d) < h → mid.handle h ≡ old.handle h
later_same d None is opened machine after old mid r i h later = rw i.0 refl
later_same d (Some name) is opened machine after old mid r i h later = i.0.others h (λ e. omega (arith, with_input_file d name is, e, later))

before_same : (o : Option (List ℕ)) (n opened : ℕ) (machine after : Option State) (old mid : HostView) (r : Result (Unit {0}) Unread) → ReadsInput o n (opened + 1) machine after old mid r → KeptUpTo opened old mid
before_same o n opened machine after old mid r i k low = input_others o n (opened + 1) machine after old mid r i k (λ e. omega (arith, e, low))

pub read_none : (opened : ℕ) (machine : Option State) (v : HostView) → ReadsInputs opened [] machine machine v v (Ok tt)
read_none opened None v = record { kept = λ k low. refl; outputs = tt; tried = refl; none_opened = refl; counts = same_faults v; has = tt }
read_none opened (Some s) v = record { kept = λ k low. refl; outputs = tt; tried = refl; none_opened = refl; counts = same_faults v; has = record { now = s; is = refl; sets = refl } }

more_counts : (old mid new : HostView) (most all : ℕ) (r : Result (Unit {0}) Unread) → most ≤ all → SameFaults old mid → Counts most mid new r → Counts all old new r
more_counts old mid new most all (Ok u) within a b = same_trans old mid new a b
more_counts old mid new most all (Err unread.Memory) within a b = same_trans old mid new a b
more_counts old mid new most all (Err unread.Host) within a b = rose_after old mid new most all within a b

more_has : (d : DeviceLine) (opened : ℕ) (ds : List DeviceLine) (machine between after : Option State) (old mid new : HostView) (u : Unit {0}) (r : Result (Unit {0}) Unread)
    → ReadsInput d.input d.number (opened + 1) machine between old mid (Ok u) → ReadsInputs (opened + length (openings_of d)) ds between after mid new r → OnOk r (IfSome machine (λ s. HasInputs old opened (d ∷ ds) s after))
more_has d opened ds machine between after old mid new u (Err e) i p = tt
more_has d opened ds None between after old mid new u (Ok v) i p = tt
more_has d opened ds (Some s) between after old mid new u (Ok v) i p =
    let m = input_set d.input d.number (opened + 1) s between old mid u i in
    let rest : HasInputs mid (opened + length (openings_of d)) ds m.0 after = rw m.1 at p.has in
    record {
      now = rest.now;
      is = rest.is;
      sets = (m.0, m.2, sets_map old mid (opened + length (openings_of d)) ds m.0 rest.now (λ h later. later_same d d.input refl opened (Some s) between old mid (Ok u) i h later) rest.sets);
    }

file_same : (d : DeviceLine) (o : Option (List ℕ)) (opened : ℕ) (old mid new : HostView) → HoldsOfFile (IsSameHandle old mid) o d.number (opened + length (openings_of d)) → KeptUpTo (opened + length (openings_of d)) mid new → HoldsOfFile (IsSameHandle old new) o d.number (opened + length (openings_of d))
file_same d None opened old mid new f kept = tt
file_same d (Some name) opened old mid new f kept = kept (opened + length (openings_of d)) (omega arith) ∙ f

-- one input more was read
pub read_more : (opened count : ℕ) (all ds : List DeviceLine) (d : DeviceLine) (machine between after : Option State) (old mid new : HostView) (u : Unit {0}) (r : Result (Unit {0}) Unread)
    → all ≡ d ∷ ds → count ≡ length (openings_of d) → ReadsInput d.input d.number (opened + 1) machine between old mid (Ok u) → ReadsInputs (opened + count) ds between after mid new r → ReadsInputs opened all machine after old new r
read_more opened count all ds d machine between after old mid new u r is counted i q =
    let p : ReadsInputs (opened + length (openings_of d)) ds between after mid new r = rw counted at q in
    rw is (record {
      kept = λ k low. p.kept k (omega arith) ∙ before_same d.input d.number opened machine between old mid (Ok u) i k low;
      outputs = (
        file_same d d.output opened old mid new (own_output d d.output refl d.input refl opened machine between old mid (Ok u) i) p.kept,
        outputs_map (IsSameHandle mid new) (IsSameHandle old new) (opened + length (openings_of d)) ds (λ n h later e. e ∙ later_same d d.input refl opened machine between old mid (Ok u) i h later) p.outputs,
      );
      tried = p.tried ∙ input_tried d.input d.number (opened + 1) machine between old mid (Ok u) i;
      none_opened = p.none_opened ∙ input_opened d.input d.number (opened + 1) machine between old mid (Ok u) i;
      counts = more_counts old mid new (last_handle (opened + length (openings_of d)) ds) (last_handle opened (d ∷ ds)) r (lines_within opened d ds) (input_faults d.input d.number (opened + 1) machine between old mid u i) p.counts;
      has = more_has d opened ds machine between after old mid new u r i p;
    })

-- or its reading failed
pub read_failed : (opened : ℕ) (all ds : List DeviceLine) (d : DeviceLine) (machine after : Option State) (old new : HostView) (e : Unread)
    → all ≡ d ∷ ds → ReadsInput d.input d.number (opened + 1) machine after old new (Err e) → ReadsInputs opened all machine after old new (Err e)
read_failed opened all ds d machine after old new e is i = rw is (record {
  kept = before_same d.input d.number opened machine after old new (Err e) i;
  outputs = (
    own_output d d.output refl d.input refl opened machine after old new (Err e) i,
    outputs_all (IsSameHandle old new) (opened + length (openings_of d)) ds (λ n h later. later_same d d.input refl opened machine after old new (Err e) i h later),
  );
  tried = input_tried d.input d.number (opened + 1) machine after old new (Err e) i;
  none_opened = input_opened d.input d.number (opened + 1) machine after old new (Err e) i;
  counts = input_counts d.input d.number (opened + 1) (last_handle opened (d ∷ ds)) machine after old new e (input_within d d.input refl opened ds) i;
  has = tt;
})

-- behind the script's opening
pub only_reads : (ds : List DeviceLine) (machine after : Option State) (old mid : HostView) (r : Result (Unit {0}) Unread) → ReadsInputs 1 ds machine after old mid r → OnlyReads ds old mid
only_reads ds machine after old mid r i = record { replies = i.kept 0 (omega arith); outputs = i.outputs; tried = i.tried; opened = i.none_opened }
