-- The other frames of a buffer stay while one of its pages is stored.
use Rattle.std.proofs.Common.{◌≡◌, ◌≢◌, ℕ, zero, suc, ◌<◌, true, false, List, [], ◌∷◌, length, ap, ◌∙◌, arith, get_or, inl, inr}
use Rattle.genie_frame.specs.declared.frame.Owner.{Owner}
use Rattle.genie_frame.specs.declared.frame.Owner.TheVariants.{Free, Page, System, Pool, Nobody}
use Rattle.genie_frame.specs.FrameTable.{is_system, FrameTable, owner_at, counts_at, bytes_at, is_lent, is_page, IsShaped, AreLoansOwned}
use Rattle.genie_frame.specs.Frames.{loan_ended, one_input_less}
use Rattle.genie_object.specs.declared.memory.Memory.{Memory}
use Rattle.genie_object.specs.Sound.{IsSound}
use Rattle.genie_swap.specs.Beside.{LeavesOthers}
use Rattle.genie_frame.specs.declared.frame.Meters.{Meters}
use Rattle.genie_input.specs.Buffers.{IsBuffer}
use Rattle.genie_finish.specs.Storing.{StaysBuffer, completed}
use Rattle.std.specs.Prelude.{Some}
use Rattle.std.proofs.lemmas.List.{get_or-set_other}
use Rattle.genie_frame.specs.FrameTable.{no_counts, set_bytes}
use Rattle.genie_frame.specs.Frames.{stored, more_copied}
use Rattle.genie_object.specs.Objects.{entry_at}
use Rattle.genie_object.specs.Memory.{entry_frame, frame_of, frame_in}
use Rattle.genie_object.specs.Sound.{IsPrivate, IsFramed}
use Rattle.genie_plan.specs.Loans.{Loan, ended}
use Rattle.genie_finish.proofs.Storing.{back_else, back_owner, private_frame}

buffer_there : (owners : List Owner) (g : ℕ) → is_system (get_or owners g Free) ≡ true → g < length owners
buffer_there [] g e = let bad : false ≡ true = e in cc
buffer_there (w ∷ owners) zero e = omega arith
buffer_there (w ∷ owners) (suc g) e = let l : g < length owners = buffer_there owners g e in omega arith

buffer_paged : (o : Owner) → is_system o ≡ true → is_page o ≡ true → ⊥
buffer_paged Free b e = cc
buffer_paged (Page p) b e = cc
buffer_paged (System t) b e = cc
buffer_paged (Pool d) b e = cc
buffer_paged Nobody b e = cc

pub stays_copied : (m : Memory) (c t : FrameTable) (o i g x n : ℕ) (bytes : List ℕ) (loan : Loan) → g ≢ loan.frame → IsSound m → (own : IsPrivate m.frames.counts m.pages.pages (entry_at m.objects o i).page) → ((h : ℕ) → entry_frame m o i ≡ Some h → c ≡ more_copied (stored m.frames h x bytes) n) → t ≡ ended c loan → IsBuffer m.frames g → StaysBuffer m.frames t g
stays_copied m c t o i g x n bytes loan d s own frames e y =
    let h = own.frame.0 in
    let is = frames h (private_frame m o i own) in
    let apart : g ≢ h = (λ same. buffer_paged (owner_at m.frames g) y.own (ap (λ k. is_page (owner_at m.frames k)) same ∙ ap is_page (s.placed.in_frame own.number.0 own.frame own.is_place))) in
    let owner : owner_at t g ≡ owner_at m.frames g = ap (λ (u : FrameTable). owner_at u g) e ∙ get_or-set_other c.owners loan.frame g _ Free d ∙ ap (λ (u : FrameTable). owner_at u g) is in
    let counts : counts_at t g ≡ counts_at m.frames g = ap (λ (u : FrameTable). counts_at u g) e ∙ get_or-set_other c.counts loan.frame g _ no_counts d ∙ ap (λ (u : FrameTable). counts_at u g) is in
    record {
      buffer = record {
        there = buffer_there t.owners g (ap is_system owner ∙ y.own);
        own = ap is_system owner ∙ y.own;
        lent = counts ∙ y.lent;
      };
      bytes = ap (λ (u : FrameTable). bytes_at u g) e ∙ ap (λ (u : FrameTable). bytes_at u g) is ∙ get_or-set_other m.frames.bytes h g _ [] apart;
    }

pub stays_swapped : (m n new : Memory) (t : FrameTable) (o i f g : ℕ) (bytes : List ℕ) (mt : Meters) → g ≢ f → IsSound m → IsBuffer m.frames f → t ≡ loan_ended m.frames f (one_input_less (counts_at m.frames f)) → IsShaped t.page t.owners t.counts t.bytes → AreLoansOwned t.owners t.counts → IsBuffer m.frames g → n.frames ≡ completed t f bytes mt → new.frames ≡ record (n.frames) { owners = new.frames.owners } → LeavesOthers o i n new → StaysBuffer m.frames new.frames g
stays_swapped m n new t o i f g bytes mt d s b e shaped lent y is frames beside =
    let counts : counts_at n.frames g ≡ counts_at m.frames g = ap (λ (u : FrameTable). counts_at u g) is ∙ back_else m t f s b e shaped lent g d in
    let owner : owner_at n.frames g ≡ owner_at m.frames g = ap (λ (u : FrameTable). owner_at u g) is ∙ back_owner m t f s b e shaped lent g in
    let lasts = beside.lent g (ap is_lent (counts ∙ y.lent)) in
    let now : owner_at new.frames g ≡ owner_at m.frames g = elim lasts.owner [
      | inl h ↦ h ∙ owner
      | inr h ↦ absurd (buffer_paged (owner_at n.frames g) (ap is_system owner ∙ y.own) h.0)
    ] in
    record {
      buffer = record {
        there = buffer_there new.frames.owners g (ap is_system now ∙ y.own);
        own = ap is_system now ∙ y.own;
        lent = ap (λ (u : FrameTable). counts_at u g) frames ∙ counts ∙ y.lent;
      };
      bytes = lasts.bytes ∙ ap (λ (u : FrameTable). bytes_at u g) is ∙ get_or-set_other t.bytes f g _ [] d ∙ ap (λ (u : FrameTable). bytes_at u g) e;
    }
