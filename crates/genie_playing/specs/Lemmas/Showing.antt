-- What a kernel stands for stays where its own handles and the store stay.
use Rattle.std.proofs.Common.{◌≡◌, ◌≢◌, ℕ, List, [], ◌∷◌, ◌++◌, map, flat_map, All, refl, ap}
use Rattle.std.specs.Prelude.{Option, Some, None}
use Rattle.std.proofs.lemmas.List.Elements.{All-nil, All-cons, All-head, All-tail}
use Rattle.genie_base.specs.declared.config.Config.{Config}
use Rattle.genie_base.specs.declared.config.DeviceConfig.{DeviceConfig}
use Rattle.genie_host.specs.Host.{HostView, HandleState}
use Rattle.genie_store.specs.StoreView.{StoreView}
use Rattle.genie_kernel.specs.declared.kernel.Kernel.{Kernel}
use Rattle.genie_kernel.specs.Handles.{handles, handles_of, listed}
use Rattle.genie_kernel.specs.Told.{told, told_at, input_at, output_at}
use Rattle.genie_kernel.specs.View.{view}
use Rattle.genie_playing.specs.Moments.{Between, Moment, shown}

all_left : {X : Type 0} (P : X → Type 0) (xs ys : List X) → All P (xs ++ ys) → All P xs
all_left P [] ys h = All-nil P
all_left P (x ∷ xs) ys h = All-cons P x xs (All-head P x (xs ++ ys) h) (all_left P xs ys (All-tail P x (xs ++ ys) h))

all_right : {X : Type 0} (P : X → Type 0) (xs ys : List X) → All P (xs ++ ys) → All P ys
all_right P [] ys h = h
all_right P (x ∷ xs) ys h = all_right P xs ys (All-tail P x (xs ++ ys) h)

-- these handles have the bytes that they had
abbrev pub SameBytes : (ℕ → Type 0) → HostView → HostView → Type 0
SameBytes P u w = (h : ℕ) → P h → (w.handle h).bytes ≡ (u.handle h).bytes

at_same : (P : ℕ → Type 0) (u w : HostView) → SameBytes P u w → (o : Option ℕ) → All P (listed o) → told_at w o ≡ told_at u o
at_same P u w same None all = refl
at_same P u w same (Some h) all = same h (All-head P h [] all)

input_named : (P : ℕ → Type 0) (c : Option DeviceConfig) → All P (handles_of c) → All P (listed (input_at c))
input_named P None all = All-nil P
input_named P (Some d) all = all_left P (listed d.input) (listed d.output) all

output_named : (P : ℕ → Type 0) (c : Option DeviceConfig) → All P (handles_of c) → All P (listed (output_at c))
output_named P None all = All-nil P
output_named P (Some d) all = all_right P (listed d.input) (listed d.output) all

told_same : (P : ℕ → Type 0) (u w : HostView) → SameBytes P u w → (pick : Option DeviceConfig → Option ℕ) → ((c : Option DeviceConfig) → All P (handles_of c) → All P (listed (pick c))) → (cs : List (Option DeviceConfig)) → All P (flat_map handles_of cs) → told w (map pick cs) ≡ told u (map pick cs)
told_same P u w same pick named [] all = refl
told_same P u w same pick named (c ∷ cs) all =
    let first = at_same P u w same (pick c) (named c (all_left P (handles_of c) (flat_map handles_of cs) all)) in
    let rest = told_same P u w same pick named cs (all_right P (handles_of c) (flat_map handles_of cs) all) in
    rw (first, rest) refl

-- the kernel stands for the same state where the bytes of its handles stay
pub view_same : (k : Kernel) (P : ℕ → Type 0) (u w : HostView) (s : StoreView) → All P (handles k.config) → SameBytes P u w → view k w s ≡ view k u s
view_same k P u w s all same =
    let inputs = told_same P u w same input_at (input_named P) k.config.devices all in
    let outputs = told_same P u w same output_at (output_named P) k.config.devices all in
    rw (inputs, outputs) refl

-- no handle of the configuration is that of the replies or that of the script
pub record IsApart (c : Config) : Type 0 where
  pub own : All (λ (h : ℕ). h ≢ 0) (handles c)
  pub unread : All (λ (h : ℕ). h ≢ 1) (handles c)

all_both : {X : Type 0} (P Q : X → Type 0) (xs : List X) → All P xs → All Q xs → All (λ x. P x × Q x) xs
all_both P Q [] p q = All-nil (λ x. P x × Q x)
all_both P Q (x ∷ xs) p q = All-cons (λ x. P x × Q x) x xs (All-head P x xs p, All-head Q x xs q) (all_both P Q xs (All-tail P x xs p) (All-tail Q x xs q))

-- the reply is written and a line is read
pub shown_between : (a b : Moment) → IsApart a.kernel.config → Between a b → shown b ≡ shown a
shown_between a b apart between =
    let P : ℕ → Type 0 = λ h. (h ≢ 0) × (h ≢ 1) in
    rw (between.kernel, between.store) (view_same a.kernel P a.host b.host a.store (all_both (λ (h : ℕ). h ≢ 0) (λ (h : ℕ). h ≢ 1) (handles a.kernel.config) apart.own apart.unread) (λ h ne. ap (λ (x : HandleState). x.bytes) (between.host.others h ne.0 ne.1)))
