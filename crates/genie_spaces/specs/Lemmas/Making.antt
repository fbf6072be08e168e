-- An object of empty entries that is made.
use Rattle.std.proofs.Common.{◌≡◌, ◌≢◌, ℕ, ◌+◌, ◌*◌, ◌<◌, zero, suc, false, List, [], ◌∷◌, ◌++◌, refl, sym, ap, ap₂, subst, arith, ◌∙◌, length, get_or, get_or-set_other, set, replicate}
use Rattle.std.specs.Prelude.{Option, Some, None, flat_map}
use Rattle.std.specs.List.{range_with_len}
use Rattle.std.proofs.lemmas.List.{replicate-append-replicate}
use Rattle.genie_object.specs.declared.objects.Entry.{Entry}
use Rattle.genie_object.specs.declared.memory.Memory.{Memory}
use Rattle.genie_object.specs.Memory.{seen, page_bytes, frame_of, entry_frame}
use Rattle.genie_object.specs.Objects.{entry_at, object_at, no_entry}
use Rattle.genie_object.specs.Sound.{IsSound, FitsHidden}
use Rattle.genie_object.specs.Touching.{Touches}
use Rattle.genie_hiding.specs.Lemmas.Naming.{cached_kept}
use Rattle.genie_region.specs.declared.region.Region.{Region}
use Rattle.genie_kernel.specs.declared.transfer.Transfer.{Transfer}
use Rattle.genie_kernel.specs.Held.{AreHeldPages, IsInFrame, page_of_loan, region_named, weak_transfers}
use Rattle.genie_kernel.specs.Loans.{frames_of}

get_replicate : (n i : ℕ) → get_or (replicate n no_entry) i no_entry ≡ no_entry
get_replicate zero i = refl
get_replicate (suc n) zero = refl
get_replicate (suc n) (suc i) = get_replicate n i

-- its entries are what was read there before
pub entry_made : (os : List (List Entry)) (o n a i : ℕ) → object_at os o ≡ [] → entry_at (set os o (replicate n no_entry)) a i ≡ entry_at os a i
entry_made [] o n a i e = refl
entry_made (x ∷ os) zero n zero i e = get_replicate n i ∙ sym (ap (λ (y : List Entry). get_or y i no_entry) e)
entry_made (x ∷ os) zero n (suc a) i e = refl
entry_made (x ∷ os) (suc o) n zero i e = refl
entry_made (x ∷ os) (suc o) n (suc a) i e = entry_made os o n a i e

-- an object that isn't there has zeros
pub absent_bytes : (m : Memory) (o : ℕ) (slots : ℕ → List ℕ) → object_at m.objects o ≡ [] → (i : ℕ) → (seen m slots).entry_bytes o i ≡ replicate m.frames.page 0
absent_bytes m o slots e i = ap (λ (es : List Entry). page_bytes m.frames m.pages.pages slots (get_or es i no_entry).page) e

pub zero_bytes : (s : ℕ → ℕ → List ℕ) (page o x n : ℕ) → ((i : ℕ) → s o i ≡ replicate page 0) → flat_map (s o) (range_with_len x n) ≡ replicate (n * page) 0
zero_bytes s page o x zero h = let none : 0 ≡ 0 * page = omega arith in ap (λ m. replicate m 0) none
zero_bytes s page o x (suc n) h = ap₂ ◌++◌ (h x) (zero_bytes s page o (x + 1) n h) ∙ replicate-append-replicate page (n * page) 0 ∙ (let more : page + n * page ≡ suc n * page = omega arith in ap (λ m. replicate m 0) more)

abbrev pub made : Memory → ℕ → ℕ → Memory
made m o n = record m { objects = set m.objects o (replicate n no_entry) }

module _ (m : Memory) (o n : ℕ) (e : object_at m.objects o ≡ []) where
  pub seen_made : (slots : ℕ → List ℕ) → seen (made m o n) slots ≡ seen m slots
  seen_made slots = λ j. record { entry_bytes = λ a i. page_bytes m.frames m.pages.pages slots (entry_made m.objects o n a i e j).page; kept_bytes = (seen m slots).kept_bytes }

  frame_made : (a i : ℕ) → entry_frame (made m o n) a i ≡ entry_frame m a i
  frame_made a i = ap (λ (x : Entry). frame_of m.pages.pages x.page) (entry_made m.objects o n a i e)

  -- it speaks of no other entry
  pub touches_made : Touches (λ a i. false) m (made m o n)
  touches_made = record {
    entries = λ a i f. let is = entry_made m.objects o n a i e in record { page = ap (λ (x : Entry). x.page) is; readable = λ h. sym (ap (λ (x : Entry). x.readable) is) ∙ h; writable = λ h. sym (ap (λ (x : Entry). x.writable) is) ∙ h };
    pages = λ p out. refl;
    outside = λ p out. record { there = out.there; named = λ a i h. refl };
    counts = λ p f out h. refl;
  }

  pub hidden_made : (objects : List ℕ) → IsSound m → FitsHidden m objects → FitsHidden (made m o n) objects
  hidden_made objects sound f = record {
    cached = λ k l.
        let a : ℕ = get_or objects k 0 in
        let was = f.cached k l in
        let other : a ≢ o = λ same. let z : 0 < 0 = subst (λ (es : List Entry). 0 < length es) (ap (object_at m.objects) same ∙ e) was.there in absurd (omega arith) in
        cached_kept (λ b i. false) m (made m o n) a sound touches_made (ap length (get_or-set_other m.objects o a (replicate n no_entry) [] other)) (λ i q h. refl) was;
    apart = f.apart;
  }

  in_frame_made : (r : Option Region) (i f : ℕ) → IsInFrame m r i f → IsInFrame (made m o n) r i f
  in_frame_made None i f h = h
  in_frame_made (Some r) i f h = frame_made r.object.0 i ∙ h

  pub held_made : (page : ℕ) (regions : List Region) (ts : List Transfer) → AreHeldPages page m regions ts → AreHeldPages page (made m o n) regions ts
  held_made page regions ts h = record {
    page_in = h.page_in;
    frame_of = h.frame_of;
    each = λ i d l. let was = h.each i d l in let t : Transfer = get_or (weak_transfers ts) i d in record {
      pages = was.pages;
      frames = was.frames;
      held = λ j lt. in_frame_made (region_named regions (page_of_loan page t j).region) (page_of_loan page t j).index (get_or (frames_of t.loans) j 0) (was.held j lt);
    };
  }
