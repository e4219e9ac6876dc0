use Rattle.std.proofs.Common.{◌≡◌, ◌<◌, Some, length, slice_get, get_or, refl, sym, ap, ◌∙◌, arith}
use Rattle.std.specs.Map.{keys_of}
use Rattle.std.specs.Option.{option_copied}
use Rattle.std.proofs.lemmas.Map.Entries.{length-keys_of}
use Rattle.std.proofs.lemmas.Option.{none-some, same_Some, slice_get_within}
use Rattle.idl_base.proofs.Exactness.{Decides-eq}
use Rattle.idl_map.proofs.TableLemmas.{lookup-at, lookup-nowhere}
use Rattle.idl_map.proofs.table.Table.get.Goals as goal

pub returns-in_err-place : goal.returns-in_err-place
returns-in_err-place g c =
    let key = c.args.key.now in
    ap option_copied c.from_residual.ensures
    ∙ sym (lookup-nowhere g.K.PartialEq.eq (Decides-eq g.K.PartialEq.eq g.met.K.Eq.laws g.met.K.Datum.same) c.args.self.now key (λ j h. none-some j ((c.in_err-place.ensures j).1 h)))

pub index-requires : goal.index-requires
index-requires g c =
    let at : slice_get (keys_of c.args.self.now) c.in_ok-place.place ≡ Some c.args.key.now = (c.in_ok-place.ensures c.in_ok-place.place).0 refl in
    let within : c.in_ok-place.place < length (keys_of c.args.self.now) = slice_get_within (keys_of c.args.self.now) c.in_ok-place.place c.args.key.now at in
    omega (arith, ap length c.self.view_is, length-keys_of c.args.self.now)

pub returns : goal.returns
returns g c =
    let key = c.args.key.now in
    let place = c.in_ok-place.place in
    ap (λ e. Some e.1) c.index.ensures
    ∙ ap (λ es. Some (get_or es place c.index.result.now).1) c.self.view_is
    ∙ sym (lookup-at g.K.PartialEq.eq (Decides-eq g.K.PartialEq.eq g.met.K.Eq.laws g.met.K.Datum.same) c.args.self.now key place c.index.result.now
    (λ j h. sym (same_Some place j ((c.in_ok-place.ensures j).1 h))) ((c.in_ok-place.ensures place).0 refl))
