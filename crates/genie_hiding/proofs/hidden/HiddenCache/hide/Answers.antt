use Rattle.std.proofs.Common.{◌≡◌, ℕ, ◌<◌, ◌++◌, ◌∷◌, [], arith, ap, sym, ◌∙◌, length, subst}
use Rattle.std.specs.Prelude.{count_by, vec_capacity, List}
use Rattle.genie_object.specs.Objects.{object_at}
use Rattle.genie_object.specs.Sound.{FitsHidden}
use Rattle.genie_hiding.specs.declared.hidden.Hidden.{Hidden}
use Rattle.genie_hiding.specs.Hidden.{objects_of, is_of}
use Rattle.genie_hiding.proofs.Kept.{room_left, kept_more}
use Rattle.genie_hiding.specs.Lemmas.Searching.{objects_pushed}
use Rattle.genie_object.specs.Lemmas.ObjectLaws.{some_length}
use Rattle.genie_hiding.proofs.Trimmed.{fits_more, cached_trimmed}
use Rattle.genie_hiding.proofs.hidden.HiddenCache.hide.Goals as goal

pub returns-clause-fits : goal.returns-clause-fits
returns-clause-fits c =
    let r = c.requires in
    let old = c.args.memory.now in
    let new = c.trim.new.memory in
    let o = c.args.region.object.0 in
    let h : Hidden = record { pid = c.args.pid; region = c.args.region } in
    let size = c.trim.ensures.empties.sizes o in
    let some : 0 < length (object_at new.objects o) = omega (arith, size, some_length (object_at old.objects o) r.there) in
    let z = fits_more (objects_of c.args.self.now) old new o r.sound r.fits c.trim.ensures.empties r.apart (cached_trimmed new o some (λ i l. c.trim.ensures.trimmed i (omega (arith, l, size)))) in
    let e = c.push_reserved.ensures.items ∙ ap (λ xs. xs ++ h ∷ []) c.self.view_is in
    subst (FitsHidden new) (sym (ap objects_of e ∙ objects_pushed c.args.self.now h)) z

less_inside : (kept old : List Hidden) (pid : ℕ) → kept ≡ old → count_by (is_of pid) old < 32 → count_by (is_of pid) kept < 32
less_inside kept old pid e l = subst (λ xs. count_by (is_of pid) xs < 32) (sym e) l

pub push_reserved-requires : goal.push_reserved-requires
push_reserved-requires c =
    let l = less_inside c.self.inside.kept.items c.args.self.now c.args.pid c.self.view_is c.requires.room in
    omega (arith, room_left c.self.inside.kept.items c.args.pid c.self.invariant.are c.requires.process l, c.self.invariant.room)

pub invariant_of-self : goal.invariant_of-self
invariant_of-self c =
    let l = less_inside c.self.inside.kept.items c.args.self.now c.args.pid c.self.view_is c.requires.room in
    let h : Hidden = record { pid = c.args.pid; region = c.args.region } in
    rw (c.push_reserved.ensures.items, c.push_reserved.ensures.capacity) (kept_more c.self.inside.kept.items h (vec_capacity c.self.inside.kept) c.self.invariant c.requires.process l)
