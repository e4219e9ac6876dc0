use Rattle.std.proofs.Common.{◌≡◌, ◌++◌, Some, map, slice_get, sym, ap, subst, ◌∙◌, arith}
use Rattle.std.specs.Prelude.{slice_set}
use Rattle.std.specs.Map.{keys_of, lookup}
use Rattle.std.proofs.lemmas.Map.Entries.{length-keys_of}
use Rattle.std.proofs.lemmas.Option.{none-some, slice_get_within}
use Rattle.idl_map.specs.Table.{AreDistinct}
use Rattle.idl_base.proofs.Exactness.{Decides-eq}
use Rattle.idl_map.proofs.TableLemmas.{key-at, keys_of-slice_set, lookup-nowhere}
use Rattle.idl_map.proofs.EntryLemmas.{lookup-replace}
use Rattle.idl_map.proofs.arena.Arena.put.Goals as goal

pub index_mut-entry-requires : goal.index_mut-entry-requires
index_mut-entry-requires g c =
    let entries = c.args.self.now.entries in
    let at : slice_get (keys_of entries.items) c.in-Some.place ≡ Some c.args.key = (c.place_at.ensures c.in-Some.place).0 c.in-Some.is in
    omega (arith, slice_get_within (keys_of entries.items) c.in-Some.place c.args.key at, length-keys_of entries.items, entries.ok.0)

pub returns-in-Some-clause-sound : goal.returns-in-Some-clause-sound
returns-in-Some-clause-sound g c =
    let es = c.args.self.now.entries.items in
    let place = c.in-Some.place in
    let entry = c.index_mut-entry.result.now in
    let at : slice_get (keys_of es) place ≡ Some c.args.key = (c.place_at.ensures place).0 c.in-Some.is in
    let own : entry.0 ≡ c.args.key = ap (λ e. e.0) c.index_mut-entry.ensures.value ∙ key-at es place c.args.key entry at in
    let keys : keys_of (slice_set es place (entry.0, c.args.value)) ≡ keys_of es = keys_of-slice_set es place entry.0 c.args.value (at ∙ ap Some (sym own)) in
    record {
      distinct = subst AreDistinct (sym keys) c.requires.distinct;
      digests = c.requires.digests ∙ ap (map g.K.Digest.digest_of) (sym keys);
      indexed = c.requires.indexed;
    }

pub returns-in-Some-clause-each_key : goal.returns-in-Some-clause-each_key
returns-in-Some-clause-each_key g c k =
    let eq = g.K.PartialEq.eq in
    let es = c.args.self.now.entries.items in
    let rest = c.args.self.now.rest.entries in
    let place = c.in-Some.place in
    let entry = c.index_mut-entry.result.now in
    let at : slice_get (keys_of es) place ≡ Some c.args.key = (c.place_at.ensures place).0 c.in-Some.is in
    let own : entry.0 ≡ c.args.key = ap (λ e. e.0) c.index_mut-entry.ensures.value ∙ key-at es place c.args.key entry at in
    ap (λ x. lookup (eq k) (slice_set es place (x, c.args.value) ++ rest)) own
    ∙ lookup-replace eq g.met.K.Eq.laws g.met.K.Datum.same c.args.key c.args.value k es rest place c.requires.distinct at

pub push-requires-clause-absent : goal.push-requires-clause-absent
push-requires-clause-absent g c =
    lookup-nowhere g.K.PartialEq.eq (Decides-eq g.K.PartialEq.eq g.met.K.Eq.laws g.met.K.Datum.same) c.args.self.now.entries.items c.args.key
    (λ j h. none-some j (sym c.in_default.is ∙ (c.place_at.ensures j).1 h))
