-- Opening the devices' files, and writing them.
use Rattle.std.proofs.Common.{◌≡◌, ◌≢◌, ℕ, ◌+◌, ◌<◌, ◌≤◌, true, false, List, [], ◌∷◌, ◌++◌, length, refl, ap, sym, ◌∙◌, arith, append-nil, append_assoc, subst}
use Rattle.std.specs.Prelude.{Option, Some, None, Ok, Err, Result, OnErr, OnOk, IfSome, IsSome, ◌==◌, flat_map}
use Rattle.std.proofs.lemmas.Bool.Decides.{nat_tests}
use Rattle.genie_base.specs.declared.semantics.Direction.{Direction}
use Rattle.std.proofs.lemmas.List.{length-append}
use Rattle.genie_host.specs.Host.{HostView, HandleState, Mode, OnlyHandle, Opens}
use Rattle.genie_base.specs.declared.semantics.Direction.TheVariants.{Inward, Outward}
use Rattle.genie_model.specs.Sending.{sent_of}
use Rattle.genie_model.specs.State.{State}
use Rattle.genie_script.specs.declared.line.DeviceLine.{DeviceLine}
use Rattle.genie_replay.specs.Files.{file_opening, openings_of, HandleRose, HasSent, HasSentFront, HoldsOfFile, HoldsOfInput, HoldsOfInputs, HoldsOfOutputs, IsFresh, IsFreshFor, IsFreshInput, IsFreshOutput, IsUnwritten, IsWriting, KeptUpTo, Opening, OpensAll, SameFaults, WritesFile, WritesFiles, last_handle}
use Rattle.genie_replay.specs.Write.{AppendsFront}
use Rattle.genie_replay.specs.Lemmas.Writing.{appends_nothing}

file_map : (P Q : ℕ → ℕ → Type 0) (opened : ℕ) (d : DeviceLine) (o : Option (List ℕ)) → d.output ≡ o → ((n h : ℕ) → opened < h → P n h → Q n h) → HoldsOfFile P o d.number (opened + length (openings_of d)) → HoldsOfFile Q o d.number (opened + length (openings_of d))
file_map P Q opened d None is f p = tt
file_map P Q opened d (Some name) is f p =
    let named : length (openings_of d) ≡ length (file_opening Inward d.input) + 1 = ap (λ o. length (file_opening Inward d.input ++ file_opening Outward o)) is ∙ length-append (file_opening Inward d.input) ((name, Outward) ∷ []) in
    f d.number (opened + length (openings_of d)) (omega (arith, named)) p

-- a test of outputs that is only about later handles
pub outputs_map : (P Q : ℕ → ℕ → Type 0) (opened : ℕ) (ds : List DeviceLine) → ((n h : ℕ) → opened < h → P n h → Q n h) → HoldsOfOutputs P opened ds → HoldsOfOutputs Q opened ds
outputs_map P Q opened [] f p = tt
outputs_map P Q opened (d ∷ ds) f p = (
  file_map P Q opened d d.output refl f p.0,
  outputs_map P Q (opened + length (openings_of d)) ds (λ n h later q. f n h (omega arith) q) p.1,
)

file_any : (o : Option (List ℕ)) (n h : ℕ) → HoldsOfFile (λ n h. Unit {0}) o n h
file_any None n h = tt
file_any (Some name) n h = tt

pub outputs_all : (Q : ℕ → ℕ → Type 0) (opened : ℕ) (ds : List DeviceLine) → ((n h : ℕ) → opened < h → Q n h) → HoldsOfOutputs Q opened ds
outputs_all Q opened [] f = tt
outputs_all Q opened (d ∷ ds) f = (
  file_map (λ n h. Unit {0}) Q opened d d.output refl (λ n h later p. f n h later) (file_any d.output d.number (opened + length (openings_of d))),
  outputs_all Q (opened + length (openings_of d)) ds (λ n h later. f n h (omega arith)),
)

-- two facts of each output make a third
file_both : (P Q R : ℕ → ℕ → Type 0) (o : Option (List ℕ)) (n h : ℕ) → ((n h : ℕ) → P n h → Q n h → R n h) → HoldsOfFile P o n h → HoldsOfFile Q o n h → HoldsOfFile R o n h
file_both P Q R None n h f p q = tt
file_both P Q R (Some name) n h f p q = f n h p q

pub outputs_both : (P Q R : ℕ → ℕ → Type 0) (opened : ℕ) (ds : List DeviceLine) → ((n h : ℕ) → P n h → Q n h → R n h) → HoldsOfOutputs P opened ds → HoldsOfOutputs Q opened ds → HoldsOfOutputs R opened ds
outputs_both P Q R opened [] f p q = tt
outputs_both P Q R opened (d ∷ ds) f p q = (file_both P Q R d.output d.number _ f p.0 q.0, outputs_both P Q R (opened + length (openings_of d)) ds f p.1 q.1)

file_given : (P : ℕ → ℕ → Type 0) (o : Option (List ℕ)) (n h : ℕ) → P n h → HoldsOfFile P o n h
file_given P None n h p = tt
file_given P (Some name) n h p = p

-- the last handle of a line is one of all lines, and so is that of the lines behind it
pub line_within : (opened : ℕ) (d : DeviceLine) (ds : List DeviceLine) → opened + length (openings_of d) ≤ last_handle opened (d ∷ ds)
line_within opened d ds = omega (arith, length-append (openings_of d) (flat_map openings_of ds))

pub lines_within : (opened : ℕ) (d : DeviceLine) (ds : List DeviceLine) → last_handle (opened + length (openings_of d)) ds ≤ last_handle opened (d ∷ ds)
lines_within opened d ds = omega (arith, length-append (openings_of d) (flat_map openings_of ds))

-- the outputs' handles are among those of the files
pub outputs_within : (opened : ℕ) (ds : List DeviceLine) → HoldsOfOutputs (λ n h. h ≤ last_handle opened ds) opened ds
outputs_within opened [] = tt
outputs_within opened (d ∷ ds) = (
  file_given (λ n h. h ≤ last_handle opened (d ∷ ds)) d.output d.number (opened + length (openings_of d)) (line_within opened d ds),
  outputs_map (λ n h. h ≤ last_handle (opened + length (openings_of d)) ds) (λ n h. h ≤ last_handle opened (d ∷ ds)) (opened + length (openings_of d)) ds
      (λ n h later low. omega (arith, low, lines_within opened d ds)) (outputs_within (opened + length (openings_of d)) ds),
)

pub same_faults : (v : HostView) → SameFaults v v
same_faults v = record { handles = λ k. refl; refusals = refl }

pub same_trans : (u v w : HostView) → SameFaults u v → SameFaults v w → SameFaults u w
same_trans u v w a b = record { handles = λ k. b.handles k ∙ a.handles k; refusals = b.refusals ∙ a.refusals }

-- a call on one handle that counted nothing
pub only_faults : (handle : ℕ) (u v : HostView) → OnlyHandle handle u v → (v.handle handle).faults ≡ (u.handle handle).faults → SameFaults u v
only_faults handle u v only count = record {
  handles = λ k. elim (k == handle) as (λ b. (k == handle) ≡ b → (v.handle k).faults ≡ (u.handle k).faults) [
    | true ↦ λ e. let same : k ≡ handle = grind (arith, nat_tests, e) in rw same count
    | false ↦ λ e. let other : k ≢ handle = λ s. grind (arith, nat_tests, e, s) in ap (λ (h : HandleState). h.faults) (only.others k other)
  ] refl;
  refusals = only.refusals;
}

-- an opening that was answered
pub opened_one : {E : Type 0} (name : List ℕ) (direction : Direction) (mode : Mode) (content : Option (List ℕ)) (e : E) (k : ℕ) (u v : HostView) → Opens name direction mode content e u v (Ok k) → OpensAll ((name, direction) ∷ []) u v
opened_one name direction mode content e k u v o = record {
  tried = o.tried;
  opened = o.opened;
  names = o.names;
  faults = record {
    handles = λ h. elim (h == u.opened + 1) as (λ b. (h == u.opened + 1) ≡ b → (v.handle h).faults ≡ (u.handle h).faults) [
      | true ↦ λ t. let same : h ≡ u.opened + 1 = grind (arith, nat_tests, t) in rw same o.fault_count
      | false ↦ λ t. let other : h ≢ u.opened + 1 = λ s. grind (arith, nat_tests, t, s) in ap (λ (x : HandleState). x.faults) (o.others h other)
    ] refl;
    refusals = o.kept;
  };
}

-- opening one list of files and then another
few_more : {E S : Type 0} (a b : List (List ℕ × Direction)) (u v w : HostView) (r : Result S E) → v.opened ≡ u.opened + length a → OnErr r (w.opened < v.opened + length b) → OnErr r (w.opened < u.opened + length (a ++ b))
few_more a b u v w (Ok s) count few = tt
few_more a b u v w (Err x) count few = omega (arith, few, count, length-append a b)

pub opening_more : {E T S : Type 0} (e : E) (a b : List (List ℕ × Direction)) (u v w : HostView) (t : T) (r : Result S E) → Opening e a u v (Ok t) → OpensAll a u v → Opening e b v w r → Opening e (a ++ b) u w r
opening_more e a b u v w t r p all q =
    let first : u.opened ≤ v.opened = p.later in
    let second : v.opened ≤ w.opened = q.later in
    let more = q.tried in
    let count : v.opened ≡ u.opened + length a = all.opened in
    let size = length-append a more.front in
    record {
      kept = λ k low. q.kept k (omega (arith, low)) ∙ p.kept k low;
      later = omega arith;
      behind = λ k high. q.behind k high ∙ p.behind k (omega (arith, high));
      tried = record {
        front = a ++ more.front;
        rest = more.rest;
        split = ap (λ l. a ++ l) more.split ∙ sym (append_assoc a more.front more.rest);
        tried = more.tried ∙ ap (λ l. l ++ more.front) all.tried ∙ append_assoc u.tried a more.front;
        opened = omega (arith, size, count, more.opened);
        refused = omega (arith, size, count, more.refused);
      };
      few = few_more a b u v w r count q.few;
      cause = λ x. rw (← all.faults.refusals) (q.cause x);
    }

pub opening_cut : {E T : Type 0} (e : E) (a b : List (List ℕ × Direction)) (u v : HostView) (x : E) → Opening {T = T} e a u v (Err x) → Opening {T = T} e (a ++ b) u v (Err x)
opening_cut e a b u v x p =
    let some = p.tried in
    record {
      kept = p.kept;
      later = p.later;
      behind = p.behind;
      tried = record {
        front = some.front;
        rest = some.rest ++ b;
        split = ap (λ l. l ++ b) some.split ∙ append_assoc some.front some.rest b;
        tried = some.tried;
        opened = some.opened;
        refused = some.refused;
      };
      few = omega (arith, p.few, length-append a b);
      cause = p.cause;
    }

pub opens_more : (a b : List (List ℕ × Direction)) (u v w : HostView) → OpensAll a u v → OpensAll b v w → OpensAll (a ++ b) u w
opens_more a b u v w p q = record {
  tried = q.tried ∙ ap (λ t. t ++ b) p.tried ∙ append_assoc u.tried a b;
  opened = let first : v.opened ≡ u.opened + length a = p.opened in let second : w.opened ≡ v.opened + length b = q.opened in omega (arith, first, second, length-append a b);
  names = q.names ∙ p.names;
  faults = same_trans u v w p.faults q.faults;
}

-- what one output's writing leaves of the others
others_kept : {E : Type 0} (o : Option (List ℕ)) (s : State) (n last : ℕ) (old mid : HostView) (r : Result (Unit {0}) E) → WritesFile o s n last old mid r → (h : ℕ) → h ≢ last → mid.handle h ≡ old.handle h
others_kept None s n last old mid r w h other = rw w.0 refl
others_kept (Some name) s n last old mid r w h other = w.only.others h other

file_faults : (E : Type 0) (o : Option (List ℕ)) (s : State) (n last : ℕ) (old mid : HostView) (u : Unit {0}) → WritesFile {E = E} o s n last old mid (Ok u) → SameFaults old mid
file_faults E None s n last old mid u w = rw w.0 (same_faults old)
file_faults E (Some name) s n last old mid u w = only_faults last old mid w.only w.cause.kept

file_tried : {E : Type 0} (o : Option (List ℕ)) (s : State) (n last : ℕ) (old mid : HostView) (r : Result (Unit {0}) E) → WritesFile o s n last old mid r → mid.tried ≡ old.tried
file_tried None s n last old mid r w = rw w.0 refl
file_tried (Some name) s n last old mid r w = w.only.tried

file_opened : {E : Type 0} (o : Option (List ℕ)) (s : State) (n last : ℕ) (old mid : HostView) (r : Result (Unit {0}) E) → WritesFile o s n last old mid r → mid.opened ≡ old.opened
file_opened None s n last old mid r w = rw w.0 refl
file_opened (Some name) s n last old mid r w = w.only.opened

-- handles up to the one before the line's files stay
kept_before : {E : Type 0} (d : DeviceLine) (o : Option (List ℕ)) → d.output ≡ o → (s : State) (opened : ℕ) (old mid : HostView) (r : Result (Unit {0}) E) → WritesFile o s d.number (opened + length (openings_of d)) old mid r → KeptUpTo opened old mid
kept_before d None is s opened old mid r w k low = rw w.0 refl
kept_before d (Some name) is s opened old mid r w k low =
    let named : length (openings_of d) ≡ length (file_opening Inward d.input) + 1 = ap (λ o. length (file_opening Inward d.input ++ file_opening Outward o)) is ∙ length-append (file_opening Inward d.input) ((name, Outward) ∷ []) in
    w.only.others k (λ e. omega (arith, named, e, low))

pub still_writing : (E : Type 0) (flat : Option State) (o : Option (List ℕ)) (n last : ℕ) (ds : List DeviceLine) (old mid : HostView) (u : Unit {0}) → IsSome flat → IfSome flat (λ s. WritesFile {E = E} o s n last old mid (Ok u)) → HoldsOfOutputs (IsWriting old) last ds → HoldsOfOutputs (IsWriting mid) last ds
still_writing E None o n last ds old mid u some w p = absurd (cc)
still_writing E (Some s) o n last ds old mid u some w p = outputs_map (IsWriting old) (IsWriting mid) last ds (λ k h later m. ap (λ (x : HandleState). x.mode) (others_kept {E = E} o s n last old mid (Ok u) w h (λ e. omega (arith, e, later))) ∙ m) p

head_sent : (E : Type 0) (o : Option (List ℕ)) (s : State) (n last : ℕ) (old mid new : HostView) (u : Unit {0}) → WritesFile {E = E} o s n last old mid (Ok u) → KeptUpTo last mid new → HoldsOfFile (HasSent s old new) o n last
head_sent E None s n last old mid new u w kept = tt
head_sent E (Some name) s n last old mid new u w kept = let same : new.handle last ≡ mid.handle last = kept last (omega arith) in rw same w.whole

head_front : (E : Type 0) (o : Option (List ℕ)) (s : State) (n last : ℕ) (old mid new : HostView) (u : Unit {0}) → WritesFile {E = E} o s n last old mid (Ok u) → KeptUpTo last mid new → HoldsOfFile (HasSentFront s old new) o n last
head_front E None s n last old mid new u w kept = tt
head_front E (Some name) s n last old mid new u w kept = let same : new.handle last ≡ mid.handle last = kept last (omega arith) in (sent_of s n, [], sym (append-nil (sent_of s n)), rw same w.whole)

pub front_none : (k : Option (List ℕ)) (bytes : List ℕ) → AppendsFront k k bytes
front_none k bytes = ([], bytes, refl, appends_nothing k)

failed_front : {E : Type 0} (o : Option (List ℕ)) (s : State) (n last : ℕ) (old new : HostView) (e : E) → WritesFile o s n last old new (Err e) → HoldsOfFile (HasSentFront s old new) o n last
failed_front None s n last old new e w = tt
failed_front (Some name) s n last old new e w = w.front

failed_cause : {E : Type 0} (o : Option (List ℕ)) (s : State) (n last most : ℕ) (old new : HostView) (e : E) → last ≤ most → WritesFile o s n last old new (Err e) → HandleRose most old new
failed_cause None s n last most old new e low w = absurd w.1
failed_cause (Some name) s n last most old new e low w = (last, low, w.cause.failed)

-- a count that rose behind calls that counted nothing
pub rose_after : (u v w : HostView) (most all : ℕ) → most ≤ all → SameFaults u v → HandleRose most v w → HandleRose all u w
rose_after u v w most all within same rose = (rose.0, omega (arith, within, rose.1), rw (← same.handles rose.0) rose.2)

-- no output is left
pub files_none : (E : Type 0) (flat : Option State) (opened : ℕ) (v : HostView) → IfSome flat (λ s. WritesFiles {E = E} s opened [] v v (Ok tt))
files_none E None opened v = tt
files_none E (Some s) opened v = record { kept = λ k low. refl; tried = refl; none_opened = refl; whole = tt; front = tt; cause = tt; faults = same_faults v }

all_whole : (E : Type 0) (s : State) (opened : ℕ) (d : DeviceLine) (ds : List DeviceLine) (old mid new : HostView) (u : Unit {0}) (r : Result (Unit {0}) E) → WritesFile {E = E} d.output s d.number (opened + length (openings_of d)) old mid (Ok u) → WritesFiles s (opened + length (openings_of d)) ds mid new r → WritesFiles s opened (d ∷ ds) old new r
all_whole E s opened d ds old mid new u (Ok v) w p = record {
  kept = λ k low. p.kept k (omega arith) ∙ kept_before {E = E} d d.output refl s opened old mid (Ok u) w k low;
  tried = p.tried ∙ file_tried {E = E} d.output s d.number _ old mid (Ok u) w;
  none_opened = p.none_opened ∙ file_opened {E = E} d.output s d.number _ old mid (Ok u) w;
  whole = (
    head_sent E d.output s d.number _ old mid new u w p.kept,
    outputs_map (HasSent s mid new) (HasSent s old new) _ ds (λ n h later a. let same : mid.handle h ≡ old.handle h = others_kept {E = E} d.output s d.number _ old mid (Ok u) w h (λ e. omega (arith, e, later)) in rw (← same) a) p.whole,
  );
  front = tt;
  cause = tt;
  faults = same_trans old mid new (file_faults E d.output s d.number _ old mid u w) p.faults;
}
all_whole E s opened d ds old mid new u (Err e) w p = record {
  kept = λ k low. p.kept k (omega arith) ∙ kept_before {E = E} d d.output refl s opened old mid (Ok u) w k low;
  tried = p.tried ∙ file_tried {E = E} d.output s d.number _ old mid (Ok u) w;
  none_opened = p.none_opened ∙ file_opened {E = E} d.output s d.number _ old mid (Ok u) w;
  whole = tt;
  front = (
    head_front E d.output s d.number _ old mid new u w p.kept,
    outputs_map (HasSentFront s mid new) (HasSentFront s old new) _ ds (λ n h later a. let same : mid.handle h ≡ old.handle h = others_kept {E = E} d.output s d.number _ old mid (Ok u) w h (λ e. omega (arith, e, later)) in rw (← same) a) p.front,
  );
  cause = rose_after old mid new (last_handle (opened + length (openings_of d)) ds) (last_handle opened (d ∷ ds)) (lines_within opened d ds) (file_faults E d.output s d.number _ old mid u w) p.cause;
  faults = tt;
}

-- one output more was written
pub files_more : (E : Type 0) (flat : Option State) (opened count : ℕ) (all ds : List DeviceLine) (d : DeviceLine) (old mid new : HostView) (u : Unit {0}) (r : Result (Unit {0}) E)
    → all ≡ d ∷ ds → count ≡ length (openings_of d) → IfSome flat (λ s. WritesFile {E = E} d.output s d.number (opened + count) old mid (Ok u)) → IfSome flat (λ s. WritesFiles s (opened + count) ds mid new r) → IfSome flat (λ s. WritesFiles s opened all old new r)
files_more E None opened count all ds d old mid new u r is counted w p = tt
files_more E (Some s) opened count all ds d old mid new u r is counted w p = rw is (all_whole E s opened d ds old mid new u r (rw counted at w) (rw counted at p))

-- or its writing failed
pub files_failed : {E : Type 0} (flat : Option State) (opened count : ℕ) (all ds : List DeviceLine) (d : DeviceLine) (old new : HostView) (e : E)
    → all ≡ d ∷ ds → count ≡ length (openings_of d) → IfSome flat (λ s. WritesFile d.output s d.number (opened + count) old new (Err e)) → IfSome flat (λ s. WritesFiles s opened all old new (Err e))
files_failed None opened count all ds d old new e is counted w = tt
files_failed (Some s) opened count all ds d old new e is counted w =
    let f : WritesFile d.output s d.number (opened + length (openings_of d)) old new (Err e) = rw counted at w in
    rw is (record {
      kept = kept_before d d.output refl s opened old new (Err e) f;
      tried = file_tried d.output s d.number _ old new (Err e) f;
      none_opened = file_opened d.output s d.number _ old new (Err e) f;
      whole = tt;
      front = (
        failed_front d.output s d.number _ old new e f,
        outputs_all (HasSentFront s old new) _ ds (λ n h later. let same : new.handle h ≡ old.handle h = others_kept d.output s d.number _ old new (Err e) f h (λ x. omega (arith, x, later)) in rw same (front_none (old.handle h).bytes (sent_of s n))),
      );
      cause = failed_cause d.output s d.number _ (last_handle opened (d ∷ ds)) old new e (line_within opened d ds) f;
      faults = tt;
    })

-- the outputs that were opened are fresh
fresh_head : (d : DeviceLine) (o : Option (List ℕ)) (a b handle : ℕ) (old mid new : HostView) → HoldsOfFile (IsFresh old mid) o a b → b ≡ handle → new.handle handle ≡ mid.handle handle → HoldsOfFile (IsFresh old new) o d.number handle
fresh_head d None a b handle old mid new f is same = tt
fresh_head d (Some name) a b handle old mid new f is same = rw same (rw is at f)

pub fresh_more : {E : Type 0} (all ds : List DeviceLine) (d : DeviceLine) (old mid new : HostView) (r : Result (Unit {0}) E)
    → all ≡ d ∷ ds → OpensAll (openings_of d) old mid → KeptUpTo old.opened old mid → HoldsOfFile (IsFresh old mid) d.output 0 mid.opened → KeptUpTo mid.opened mid new → OnOk r (HoldsOfOutputs (IsFresh mid new) mid.opened ds) → OnOk r (HoldsOfOutputs (IsFresh old new) old.opened all)
fresh_more all ds d old mid new (Err e) is o kept f later p = tt
fresh_more all ds d old mid new (Ok u) is o kept f later p =
    let count : mid.opened ≡ old.opened + length (openings_of d) = o.opened in
    let replies : mid.handle 0 ≡ old.handle 0 = kept 0 (omega arith) in
    rw is (
      fresh_head d d.output 0 mid.opened (old.opened + length (openings_of d)) old mid new f count (later _ (omega arith)),
      rw (← count) (outputs_map (IsFresh mid new) (IsFresh old new) mid.opened ds (λ n h after q. subst (λ (x : HandleState). IsFreshOutput x.bytes (new.handle h)) replies q) p),
    )

input_map : (P Q : List ℕ → ℕ → Type 0) (opened : ℕ) (o : Option (List ℕ)) → ((name : List ℕ) (h : ℕ) → opened < h → P name h → Q name h) → HoldsOfInput P o (opened + 1) → HoldsOfInput Q o (opened + 1)
input_map P Q opened None f p = tt
input_map P Q opened (Some name) f p = f name (opened + 1) (omega arith) p

-- a test of inputs that is only about later handles
pub inputs_map : (P Q : List ℕ → ℕ → Type 0) (opened : ℕ) (ds : List DeviceLine) → ((name : List ℕ) (h : ℕ) → opened < h → P name h → Q name h) → HoldsOfInputs P opened ds → HoldsOfInputs Q opened ds
inputs_map P Q opened [] f p = tt
inputs_map P Q opened (d ∷ ds) f p = (
  input_map P Q opened d.input f p.0,
  inputs_map P Q (opened + length (openings_of d)) ds (λ name h later q. f name h (omega arith) q) p.1,
)

-- the inputs that were opened are fresh
fresh_input : (d : DeviceLine) (o : Option (List ℕ)) → d.input ≡ o → (old mid new : HostView) → HoldsOfInput (IsFreshFor old mid) o (old.opened + 1) → mid.opened ≡ old.opened + length (openings_of d) → KeptUpTo mid.opened mid new → HoldsOfInput (IsFreshFor old new) o (old.opened + 1)
fresh_input d None is old mid new f count kept = tt
fresh_input d (Some name) is old mid new f count kept =
    let named : length (openings_of d) ≡ 1 + length (file_opening Outward d.output) = ap (λ o. length (file_opening Inward o ++ file_opening Outward d.output)) is ∙ length-append ((name, Inward) ∷ []) (file_opening Outward d.output) in
    let same : new.handle (old.opened + 1) ≡ mid.handle (old.opened + 1) = kept (old.opened + 1) (omega (arith, count, named)) in
    rw same f

pub inputs_more : {E : Type 0} (all ds : List DeviceLine) (d : DeviceLine) (old mid new : HostView) (r : Result (Unit {0}) E)
    → all ≡ d ∷ ds → OpensAll (openings_of d) old mid → HoldsOfInput (IsFreshFor old mid) d.input (old.opened + 1) → KeptUpTo mid.opened mid new → OnOk r (HoldsOfInputs (IsFreshFor mid new) mid.opened ds) → OnOk r (HoldsOfInputs (IsFreshFor old new) old.opened all)
inputs_more all ds d old mid new (Err e) is o f later p = tt
inputs_more all ds d old mid new (Ok u) is o f later p =
    let count : mid.opened ≡ old.opened + length (openings_of d) = o.opened in
    rw is (
      fresh_input d d.input refl old mid new f count later,
      rw (← count) (inputs_map (IsFreshFor mid new) (IsFreshFor old new) mid.opened ds (λ name h after q. subst (λ (n : List ℕ → Option (List ℕ)). IsFreshInput (n name) (new.handle h)) o.names q) p),
    )

-- nothing was written to an output that wasn't opened, nor to a fresh one
pub unopened : (old new : HostView) (n h : ℕ) → new.handle h ≡ old.handle h → new.opened < h → IsUnwritten old new n h
unopened old new n h same high = record { fresh = λ low. absurd (omega (arith, high, low)); closed = λ x. same }

pub fresh_unwritten : (old new : HostView) (n h : ℕ) → h ≤ new.opened → IsFresh old new n h → IsUnwritten old new n h
fresh_unwritten old new n h low f = record { fresh = λ x. f; closed = λ high. absurd (omega (arith, high, low)) }

-- a line's files couldn't be opened
pub unwritten_cut : {E T : Type 0} (e : E) (all ds : List DeviceLine) (d : DeviceLine) (old new : HostView) (x : E)
    → all ≡ d ∷ ds → Opening {T = T} e (openings_of d) old new (Err x) → HoldsOfOutputs (IsUnwritten old new) old.opened all
unwritten_cut e all ds d old new x is o =
    let few : new.opened < old.opened + length (openings_of d) = o.few in
    rw is (
      file_given (IsUnwritten old new) d.output d.number (old.opened + length (openings_of d)) (unopened old new d.number _ (o.behind _ few) few),
      outputs_all (IsUnwritten old new) (old.opened + length (openings_of d)) ds (λ n h later. let high : new.opened < h = omega (arith, few, later) in unopened old new n h (o.behind h high) high),
    )

-- or those of a later line
pub unwritten_more : {E T S : Type 0} (e : E) (all ds : List DeviceLine) (d : DeviceLine) (old mid new : HostView) (t : T) (r : Result S E)
    → all ≡ d ∷ ds → Opening e (openings_of d) old mid (Ok t) → OpensAll (openings_of d) old mid → HoldsOfFile (IsFresh old mid) d.output 0 mid.opened
    → Opening e (flat_map openings_of ds) mid new r → OnErr r (HoldsOfOutputs (IsUnwritten mid new) mid.opened ds) → OnErr r (HoldsOfOutputs (IsUnwritten old new) old.opened all)
unwritten_more e all ds d old mid new t (Ok s) is p o f q w = tt
unwritten_more e all ds d old mid new t (Err x) is p o f q w =
    let count : mid.opened ≡ old.opened + length (openings_of d) = o.opened in
    let later : mid.opened ≤ new.opened = q.later in
    let replies : mid.handle 0 ≡ old.handle 0 = p.kept 0 (omega arith) in
    rw is (
      file_both (λ n h. h ≤ new.opened) (IsFresh old new) (IsUnwritten old new) d.output d.number (old.opened + length (openings_of d)) (fresh_unwritten old new)
          (file_given (λ n h. h ≤ new.opened) d.output d.number _ (omega arith))
          (fresh_head d d.output 0 mid.opened (old.opened + length (openings_of d)) old mid new f count (q.kept _ (omega arith))),
      rw (← count) (outputs_map (IsUnwritten mid new) (IsUnwritten old new) mid.opened ds (λ n h after q. record {
        fresh = λ low. subst (λ (x : HandleState). IsFreshOutput x.bytes (new.handle h)) replies (q.fresh low);
        closed = λ high. q.closed high ∙ p.behind h after;
      }) w),
    )
