use Rattle.std.proofs.Common.{ℕ, ◌+◌, ◌∷◌, ◌++◌, [], List, map, ap, ◌∙◌}
use Rattle.std.proofs.lemmas.Result.{on_ok_weaker}
use Rattle.std.specs.Prelude.{option_to_list}
use Rattle.idl_check.proofs.Faults.NotedLemmas.{noted-by}
use Rattle.idl_check.proofs.Faults.TableLaws.{used-up}
use Rattle.idl_check.specs.told.Bodies.{Clauses, with_raised}
use Rattle.idl_check.specs.tables.Codes.{codes_in}
use Rattle.idl_check.specs.walk.Held.{held}
use Rattle.idl_tree.specs.NameParts.{last_at}
use Rattle.idl_check.specs.tables.Using.{bases_after, constants_after, last_after, own_after, type_after, unions_after, used_table, values_after, with_uses}
use Rattle.idl_check.specs.walk.Walk.{Walk, noted}
use Rattle.idl_check.specs.declared.walk.walker.Walker.{Walker}
use Rattle.idl_lex.specs.kinds.Keywords.{folded}
use Rattle.idl_env.specs.declared.additions.addition.Addition.{Addition}
use Rattle.idl_entity.specs.declared.entity.Entity.{Entity}
use Rattle.idl_unit.specs.TokenRules.{fault_at, first}
use Rattle.idl_check.proofs.walk.walker.Walker.use_as.Goals as goal

pub returns-clause-visit : goal.returns-clause-visit
returns-clause-visit c =
    let old = c.args.self.now in
    let way = c.args.way in
    let name = c.args.name.now in
    let behind = c.args.behind.now in
    let e = c.args.found.now.entity in
    let reach = c.args.found.now.reach in
    let before = c.note.new.self in
    let last = last_at old.at name in
    let table = used_table way old.bases e behind in
    let code = c.in_ok-code.ensures.code behind c.in_ok-constants.ensures ∙ (λ i. first (codes_in (used_table way old.bases (c.get-entity.ensures i) behind))) in
    let fault = (λ i. noted old.fault (map (fault_at (c.last_at-last.ensures i)) (option_to_list c.in_ok-code.code)))
    ∙ noted-by old.fault last table c.in_ok-code.code (used-up way old.bases e behind) code in
    let follows : Walk → List (List (List ℕ)) → Clauses → Entity → Walk = λ w found clauses f. record w {
      bases = bases_after way f w.bases;
      written = record w.written { data_type = type_after way f w.written.data_type; constants = constants_after way behind w.written.constants };
      clauses = clauses;
      unions = unions_after way behind w.unions;
      found = found;
      values = values_after way f.value w.values;
    } in
    let followed : Walk → Walk = λ w. follows w (w.found ++ e.path ∷ []) (with_raised way e.path w.clauses) e in
    let after : Walker → ℕ → List Addition → List (List ℕ) → Walk = λ w at own path. record (held w) {
      at = at + 1;
      own = own_after way (last_after way path w.last) own;
      last = last_after way path w.last;
    } in
    let over = c.take_base.new.self in
    let lent = c.path-path.ensures ∙ ap (λ (f : Entity). f.path) c.get-entity.ensures in
    let path = c.in_ok-clone.ensures.cases ∙ lent in
    let scopes = c.scopes.ensures.value in
    on_ok_weaker c.follow.result (λ walk. walk
    ∙ (λ i. follows (held over) (c.in_ok-push.ensures.items i) (c.in_ok-add_raised.ensures i) (c.get-entity.ensures i))
    ∙ (λ i. follows (held over) (over.found ++ path i ∷ []) (with_raised way (lent i) over.clauses) e)
    ∙ (λ i. followed (c.in_ok-take_base.ensures.walk i))
    ∙ (λ i. followed (after before c.last_at-last.result (c.in_ok-introduce.ensures i).additions (lent i)))
    ∙ (λ i. followed (after before (c.last_at-last.ensures i) (with_uses (folded name.first) reach (scopes i) before.own.additions) e.path))
    ∙ (λ i. followed (after (c.note.ensures i) last (with_uses (folded name.first) reach (c.note.ensures i).cursor (c.note.ensures i).own.additions) e.path))
    ∙ (λ i. record (followed (after (record old { bases = c.in_ok-code.ensures.same i }) last (with_uses (folded name.first) reach old.cursor old.own.additions) e.path))
    { fault = noted old.fault (map (fault_at c.last_at-last.result) (option_to_list c.in_ok-code.code)) })
    ∙ (λ i. record (followed (after old last (with_uses (folded name.first) reach old.cursor old.own.additions) e.path)) { fault = fault i }))
    c.follow.ensures.walk
