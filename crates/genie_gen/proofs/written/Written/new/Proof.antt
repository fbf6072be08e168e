-- `new` makes a value of no bytes, at the empty list.
use Rattle.std.proofs.Common.{[], ◌∷◌, refl}
use mir.Val.{vstruct, vcons, vnil}
use prog.Wp.{WpFn, Tables}
use contract.Running.{tables, tables_of}
use sound.WpLaws.{WpFn-mono}
use types.Kit.{raw, ◌$◌, ◌∵◌, !, qed, keep, join, suffices, done}
use types.Run.{no_more, and_then, returns, enter}
use types.Part.{agg}
use types.ByLocal.{alloc_all, pass_all, free_all, look_at, get, sets}
use denote.Shadow.{pure_i}
use denote.Steps.{nothing}
use denote.Triple.Entry.{on_entry}
use denote.Triple.Spec.{triple_of}
use denote.Triple.Table.{entered}
use denote.Triple.Walked.{says, ends_at, walked, walk_Meets}
use Rattle.genie_gen.specs.declared.written.Written.{Written}
use Rattle.genie_gen.specs.contracts.written.Written as Row
use Rattle.genie_gen.specs.contracts.written.Written.new as it
use Rattle.genie_gen.specs.contracts.written.Written.new.Key.{name as #it}
use Rattle.genie_gen.proofs.written.Written.new.Statement as stated
use Rattle.genie_gen.proofs.written.Written.new.Code as code

abbrev unwritten : Written
unwritten = record { marker = record {}; items = [] }

pub new_spec : {M : Type 1} → stated.statement M
unfolding tables_of
new_spec 𝓤 𝓛 𝓜 𝓡 wired =
    let 𝓣 : Tables 𝓤 𝓛.H = tables_of 𝓤 𝓛.H 𝓜 (tables 𝓤 𝓛.H 𝓜 𝓡 𝓡.env) in
    let body = WpFn 𝓤 𝓛.H 𝓣.C 𝓣.Λ code.function in
    let held = it.clauses 𝓛 𝓜.mem 𝓡.returns in
    let marker = vstruct vnil in
    entered 𝓤 𝓛.H (triple_of 𝓛 it.signature (it.spec 𝓛 𝓜.mem 𝓡.returns)) 𝓣.C 𝓣.Λ #it code.function (code.unfolded 𝓤 𝓛.H 𝓜 𝓡 wired)
    (walk_Meets 𝓛 it.ended tt tt held body (WpFn-mono 𝓤 𝓛.H 𝓛.laws 𝓣 code.function)
    (walked 𝓛 it.ended tt held body (λ κs. tt) (λ κs. tt) (λ κs qs bounds a g _.
    qed 𝓛 (raw (on_entry 𝓛 it.signature κs qs a tt) ∷ raw ((held κs a).requires g) ∷ []) ∵ keep ! [] $
    enter ! 𝓣.C 𝓣.Λ code.function [] _ $ alloc_all ! (λ l. pass_all ! refl tt $
    sets ! (agg ! (no_more !)) refl (tt, tt) $ sets ! (agg ! (and_then ! (get ! refl) (no_more !))) refl (tt, (tt, tt)) $
    returns ! (look_at ! 0 refl) $ free_all ! refl $
    pure_i ! (Row.the_row.own_val unwritten (vstruct (vcons marker vnil) ∷ [])) ((λ vss. (tt, ((λ uss. (tt, tt)), tt))), tt) (((marker ∷ [], tt), (refl, ((tt, (refl, tt)), tt))), tt) $
    suffices ! _ (ends_at 𝓛 it.ended tt held ((κs, qs, bounds, a, tt), g) (vstruct (vcons marker vnil)) unwritten tt tt) $ says ! refl $
    nothing ! $ join ! $ nothing ! $ done !))))
