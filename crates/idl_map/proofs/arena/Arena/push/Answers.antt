use Rattle.std.proofs.Common.{◌≡◌, ◌++◌, [], ◌∷◌, map, sym, ap, subst, ◌∙◌, arith}
use Rattle.std.proofs.lemmas.List.{map-append}
use Rattle.std.specs.Map.{keys_of, lookup}
use Rattle.idl_map.specs.Table.{AreDistinct}
use Rattle.idl_base.proofs.Exactness.{Decides-eq}
use Rattle.idl_map.proofs.TableLemmas.{AreDistinct-push, keys_of-push, nowhere-lookup}
use Rattle.idl_map.proofs.EntryLemmas.{lookup-push, lookup-put_by_order, lookup-rest}
use Rattle.std.proofs.lemmas.Grind.{common_steps}
use Rattle.idl_map.proofs.arena.Arena.push.Goals as goal

pub returns-then-branch-clause-sound : goal.returns-then-branch-clause-sound
returns-then-branch-clause-sound g c =
    let digest_of = g.K.Digest.digest_of in
    let es = c.args.self.now.entries.items in
    let key = c.args.key in
    let after = c.push-then-branch.new.self.items in
    let grown : after ≡ es ++ (key, c.args.value) ∷ [] = c.in_ok-push-2.ensures.items ∙ ap (λ fs. fs ++ (key, c.args.value) ∷ []) c.in_ok-reserve.ensures.items in
    let keys : keys_of after ≡ keys_of es ++ key ∷ [] = ap keys_of grown ∙ keys_of-push es key c.args.value in
    let nowhere = nowhere-lookup g.K.PartialEq.eq (Decides-eq g.K.PartialEq.eq g.met.K.Eq.laws g.met.K.Datum.same) es key c.requires.absent in
    record {
      distinct = subst AreDistinct (sym keys) (AreDistinct-push (keys_of es) key c.requires.sound.distinct nowhere);
      digests =
          c.in_ok-push.ensures.pushed c.if-branch.true
          ∙ ap (λ ds. ds ++ c.args.spot.digest ∷ []) c.requires.sound.digests
          ∙ ap (λ d. map digest_of (keys_of es) ++ d ∷ []) c.requires.digest
          ∙ sym (map-append digest_of (keys_of es) (key ∷ []))
          ∙ ap (map digest_of) (sym keys);
      indexed = c.push.ensures.sound;
    }

pub returns-then-branch-clause-each_key : goal.returns-then-branch-clause-each_key
returns-then-branch-clause-each_key g c k =
    let eq = g.K.PartialEq.eq in
    let es = c.args.self.now.entries.items in
    let rest = c.args.self.now.rest.entries in
    let grown : c.push-then-branch.new.self.items ≡ es ++ (c.args.key, c.args.value) ∷ [] =
    c.in_ok-push-2.ensures.items ∙ ap (λ fs. fs ++ (c.args.key, c.args.value) ∷ []) c.in_ok-reserve.ensures.items in
    ap (λ fs. lookup (eq k) (fs ++ rest)) grown
    ∙ lookup-push eq g.met.K.Eq.laws g.met.K.Datum.same c.args.key c.args.value k es rest c.requires.absent

pub returns-clause-each_key : goal.returns-clause-each_key
returns-clause-each_key g c =
    let eq = g.K.PartialEq.eq in
    let es = c.args.self.now.entries.items in
    let rest = c.args.self.now.rest.entries in
    λ k.
    let more = c.insert.new.self.entries in
    let put = lookup-put_by_order eq g.K.Ord.cmp g.met.K.Ord.matches_eq g.met.K.Eq.laws rest more c.args.key c.args.value k (c.in_ok-insert.ensures.updates.0 k) in
    ap (λ fs. lookup (eq k) (fs ++ more)) c.in_ok-reserve.ensures.items
    ∙ lookup-rest eq g.met.K.Eq.laws g.met.K.Datum.same c.args.key c.args.value k es rest more c.requires.absent put

pub returns-in_err-reserve-clause-sound : goal.returns-in_err-reserve-clause-sound
returns-in_err-reserve-clause-sound g c = grind (arith, common_steps)

pub returns-in_err-reserve-clause-err : goal.returns-in_err-reserve-clause-err
returns-in_err-reserve-clause-err g c = grind (arith, common_steps)

pub returns-in_err-push-clause-sound : goal.returns-in_err-push-clause-sound
returns-in_err-push-clause-sound g c = grind (arith, common_steps)

pub returns-in_err-push-clause-err : goal.returns-in_err-push-clause-err
returns-in_err-push-clause-err g c = grind (arith, common_steps)

pub returns-in_err-push-2-clause-sound : goal.returns-in_err-push-2-clause-sound
returns-in_err-push-2-clause-sound g c = grind (arith, common_steps)

pub returns-in_err-push-2-clause-err : goal.returns-in_err-push-2-clause-err
returns-in_err-push-2-clause-err g c = grind (arith, common_steps)

pub returns-in_err-insert-clause-sound : goal.returns-in_err-insert-clause-sound
returns-in_err-insert-clause-sound g c = grind (arith, common_steps)

pub returns-in_err-insert-clause-err : goal.returns-in_err-insert-clause-err
returns-in_err-insert-clause-err g c = grind (arith, common_steps)

pub returns-then-branch-clause-err : goal.returns-then-branch-clause-err
returns-then-branch-clause-err g c = grind (arith, common_steps)

pub returns-clause-sound : goal.returns-clause-sound
returns-clause-sound g c = grind (arith, common_steps)

pub returns-clause-err : goal.returns-clause-err
returns-clause-err g c = grind (arith, common_steps)
