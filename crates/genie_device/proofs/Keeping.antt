-- What is true of every device stays true in its steps.
use Rattle.std.proofs.Common.{◌≡◌, ℕ, ◌+◌, ◌-◌, ◌<◌, ◌≤◌, List, [], ◌∷◌, ◌++◌, length, refl, ap, sym, ◌∙◌, subst, arith, true, false, inl, inr, zero, suc}
use Rattle.std.specs.Prelude.{◌&&◌, nat_le, Option, Some, None, is_some, if◌then◌else◌}
use Rattle.std.proofs.lemmas.Grind.{common_steps}
use Rattle.std.proofs.lemmas.List.{length-append}
use Rattle.std.proofs.lemmas.List.Quantifiers.{position-Some}
use Rattle.genie_base.specs.declared.config.Kind.{Kind}
use Rattle.genie_base.specs.declared.config.Kind.TheVariants.{Early, Pooled, Outboard}
use Rattle.genie_base.specs.Headers.{is_valid_header, len_in}
use Rattle.genie_wire.specs.declared.header.Header.{Header}
use Rattle.genie_wire.specs.Headers.{header_in}
use Rattle.genie_device.specs.declared.present.Present.{Present}
use Rattle.genie_device.specs.declared.steps.HeaderEnd.TheVariants.{Whole, Bad}
use Rattle.genie_device.specs.Buffers.{BufferView, BufferState, Filling, no_buffer, state_at, first_free, begun, filled, is_free, is_filling, bytes_in, arrived_count}
use Rattle.genie_device.specs.Device.{is_outboard, buffer_count}
use Rattle.genie_device.specs.Gathering.{judged}
use Rattle.genie_device.specs.Kept.{AreBuffers, IsDevice}
use Rattle.genie_device.proofs.Table.{state_set, rooms_set, some_free, length-with_state}

-- a header that is judged valid has an allowed length
pub allowed_len : (limit : ℕ) (header : Header) (bytes : List ℕ) → Whole header ≡ judged limit bytes → header.len ≤ limit
allowed_len limit header bytes e = elim (is_valid_header limit bytes) as (λ b. is_valid_header limit bytes ≡ b → Whole header ≡ (if b then Whole (header_in bytes) else Bad) → header.len ≤ limit) [
  | true ↦ λ valid same. let h : header ≡ header_in bytes = cc in let l : header.len ≡ len_in bytes = ap (λ (x : Header). x.len) h in let le : len_in bytes ≤ limit = within valid in omega arith
  | false ↦ λ valid same. absurd (cc)
] refl e where
  within : is_valid_header limit bytes ≡ true → len_in bytes ≤ limit
  within valid = grind (arith, common_steps)

none_filling : (limit : ℕ) (buffers : List BufferView) → AreBuffers limit None buffers → (k : ℕ) → is_filling (state_at buffers k) ≡ false
none_filling limit buffers a k = elim (is_filling (state_at buffers k)) as (λ b. is_filling (state_at buffers k) ≡ b → b ≡ false) [
  | true ↦ λ t. absurd (let never = a.others k t in cc)
  | false ↦ λ f. refl
] refl

begun_buffers : (limit : ℕ) (header : Header) (place : Option ℕ) (buffers : List BufferView) → place ≡ first_free buffers → AreBuffers limit None buffers
    → AreBuffers limit (Some (record { header = header; moved = 0; buffer = place })) (begun place buffers)
begun_buffers limit header None buffers e a = record {
  rooms = a.rooms;
  filled = λ k never. absurd (cc);
  others = λ k t. absurd (let never = a.others k t in cc);
}
begun_buffers limit header (Some i) buffers e a =
    let there : i < length buffers = (position-Some (λ (b : BufferView). is_free b.state) buffers i no_buffer (sym e)).0 in
    record {
      rooms = rooms_set (Filling []) i limit buffers there a.rooms;
      filled = λ k same. elim (state_set (Filling []) i k buffers there) [
        | inl h ↦ rw h.1 (record { filling = refl; bytes = refl })
        | inr h ↦ absurd (let i' : i ≡ k = cc in h.0 (sym i'))
      ];
      others = λ k t. elim (state_set (Filling []) i k buffers there) [
        | inl h ↦ ap Some (sym h.0)
        | inr h ↦ absurd (let never = a.others k (rw h.1 at t) in cc)
      ];
    }

length-begun : (place : Option ℕ) (buffers : List BufferView) → length (begun place buffers) ≡ length buffers
length-begun None buffers = refl
length-begun (Some i) buffers = length-with_state (Filling []) i buffers

not_full : (depth count : ℕ) → nat_le depth count ≡ false → count < depth
not_full depth count h = grind (arith, common_steps)

begun_kind : (kind : Kind) (depth limit : ℕ) (buffers : List BufferView) → length buffers ≡ buffer_count kind depth → AreBuffers limit None buffers
    → is_outboard kind && nat_le depth (arrived_count buffers) ≡ false → is_some (first_free buffers) ≡ is_outboard kind
begun_kind Early depth limit [] count a few = refl
begun_kind Early depth limit (b ∷ buffers) count a few = absurd (omega arith)
begun_kind Pooled depth limit [] count a few = refl
begun_kind Pooled depth limit (b ∷ buffers) count a few = absurd (omega arith)
begun_kind Outboard depth limit buffers count a few = some_free buffers (none_filling limit buffers a) (let h : arrived_count buffers < depth = not_full depth (arrived_count buffers) few in omega arith)

pub begun_kept : (kind : Kind) (depth limit : ℕ) (gathered gathered' : List ℕ) (present : Option Present) (header : Header) (place : Option ℕ) (buffers buffers' : List BufferView) (staged : List ℕ) (room reading : ℕ)
    → IsDevice kind depth limit gathered present buffers staged room reading → present ≡ None → gathered' ≡ [] → header.len ≤ limit
    → is_outboard kind && nat_le depth (arrived_count buffers) ≡ false
    → place ≡ first_free buffers → buffers' ≡ begun (first_free buffers) buffers
    → IsDevice kind depth limit gathered' (Some (record { header = header; moved = 0; buffer = place })) buffers' staged room reading
begun_kept kind depth limit gathered gathered' present header place buffers buffers' staged room reading d absent empty len few e e' =
    let filling : AreBuffers limit None buffers = rw absent at d.filling in
    let same : buffers' ≡ begun place buffers = e' ∙ ap (λ (p : Option ℕ). begun p buffers) (sym e) in
    record {
      short = rw empty refl;
      allowed = record { moved = omega arith; len = len; buffer = ap is_some e ∙ begun_kind kind depth limit buffers d.count filling few };
      count = ap length same ∙ length-begun place buffers ∙ d.count;
      filling = subst (AreBuffers limit (Some (record { header = header; moved = 0; buffer = place }))) (sym same) (begun_buffers limit header place buffers e filling);
      fits = d.fits;
      staging = d.staging;
      reading = d.reading;
    }

length-filled : (place : Option ℕ) (taken : List ℕ) (buffers : List BufferView) → length (filled place taken buffers) ≡ length buffers
length-filled None taken buffers = refl
length-filled (Some i) taken buffers = length-with_state _ i buffers

past_nothing : (buffers : List BufferView) (i : ℕ) → is_filling (state_at buffers i) ≡ true → i < length buffers
past_nothing [] i t = absurd (cc)
past_nothing (b ∷ buffers) zero t = omega arith
past_nothing (b ∷ buffers) (suc i) t = let h = past_nothing buffers i t in omega arith

filled_buffers : (limit : ℕ) (header : Header) (place : Option ℕ) (moved : ℕ) (taken : List ℕ) (buffers : List BufferView)
    → AreBuffers limit (Some (record { header = header; moved = moved; buffer = place })) buffers
    → AreBuffers limit (Some (record { header = header; moved = moved + length taken; buffer = place })) (filled place taken buffers)
filled_buffers limit header None moved taken buffers a = record {
  rooms = a.rooms;
  filled = λ k never. absurd (cc);
  others = a.others;
}
filled_buffers limit header (Some i) moved taken buffers a =
    let old = a.filled i refl in
    let there : i < length buffers = past_nothing buffers i old.filling in
    let bytes : length (bytes_in (state_at buffers i)) ≡ moved = old.bytes in
    let size : length (bytes_in (state_at buffers i) ++ taken) ≡ moved + length taken = (let l = length-append (bytes_in (state_at buffers i)) taken in omega arith) in
    let new : BufferState = Filling (bytes_in (state_at buffers i) ++ taken) in
    record {
      rooms = rooms_set new i limit buffers there a.rooms;
      filled = λ k same. elim (state_set new i k buffers there) [
        | inl h ↦ rw h.1 (record { filling = refl; bytes = size })
        | inr h ↦ absurd (let i' : i ≡ k = cc in h.0 (sym i'))
      ];
      others = λ k t. elim (state_set new i k buffers there) [
        | inl h ↦ ap Some (sym h.0)
        | inr h ↦ a.others k (rw h.1 at t)
      ];
    }

pub filled_kept : (kind : Kind) (depth limit : ℕ) (gathered : List ℕ) (header : Header) (place : Option ℕ) (moved n : ℕ) (taken : List ℕ) (buffers buffers' : List BufferView) (staged : List ℕ) (room reading reading' : ℕ)
    → IsDevice kind depth limit gathered (Some (record { header = header; moved = moved; buffer = place })) buffers staged room reading → length taken ≡ n → n ≤ header.len - moved
    → buffers' ≡ filled place taken buffers → reading' ≡ reading
    → IsDevice kind depth limit gathered (Some (record { header = header; moved = moved + n; buffer = place })) buffers' staged room reading'
filled_kept kind depth limit gathered header place moved n taken buffers buffers' staged room reading reading' d size fits e same =
    let old : moved ≤ header.len = d.allowed.moved in
    record {
      short = d.short;
      allowed = record { moved = omega arith; len = d.allowed.len; buffer = d.allowed.buffer };
      count = ap length e ∙ length-filled place taken buffers ∙ d.count;
      filling = rw (e, sym size) (filled_buffers limit header place moved taken buffers d.filling);
      fits = d.fits;
      staging = d.staging;
      reading = rw same d.reading;
    }
