use Rattle.std.proofs.Common.{◌≡◌, ◌∙◌, ◌++◌, ◌∷◌, [], Bool, List, ap, append-nil, append_assoc, false, filter, if◌then◌else◌, map, not, refl, sym, take, true}
use Rattle.std.proofs.lemmas.List.{map-append}
use Rattle.std.specs.Bool.{beq}
use Rattle.std.specs.List.{zip}
use Rattle.idl_related.specs.Follows.{follows}
use Rattle.idl_related.specs.declared.second.Related.{Related}
use Rattle.idl_tool.specs.Checked.{Told, is_of}
use Rattle.idl_tool.specs.ToldAt.{told_at}
use Rattle.idl_tool.proofs.CheckLemmas.{pairs-all, those-next}
use Rattle.idl_tool.proofs.check.push_those.Goals as goal

-- whether it is one of those
others : (is are : Bool) → not (beq is are) ≡ true → (if are then is else not is) ≡ false
others true true e = absurd (cc)
others true false e = refl
others false true e = refl
others false false e = absurd (cc)

those : (is are : Bool) → not (beq is are) ≡ false → (if are then is else not is) ≡ true
those true true e = refl
those true false e = absurd (cc)
those false true e = absurd (cc)
those false false e = refl

pub findings-init : goal.findings-init
findings-init c = sym (append-nil (map told_at c.args.told.now.items))

pub findings-preserved-then-follows-are_following : goal.findings-preserved-then-follows-are_following
findings-preserved-then-follows-are_following c =
    let findings = c.args.findings.now in
    let related = c.args.related.now in
    let are = c.args.are_following in
    let finding = c.index-findings-index.result in
    let seconds = c.index-related-index.result in
    let before = map told_at c.args.told.now.items in
    let kept = filter (is_of are) (take c.findings.index (zip findings related)) in
    let is_other = others (follows seconds) are (ap (λ (b : Bool). not (beq b are)) (sym (c.follows.ensures ∙ ap follows c.as_slice.ensures)) ∙ c.if-follows-are_following.true) in
    let next = those-next are findings related c.findings.index finding seconds false c.findings-test.true c.requires c.index-findings-index.is c.index-related-index.is is_other in
    c.findings.invariant ∙ ap (λ (ts : List Told). before ++ ts) (sym (next ∙ append-nil kept))

pub findings-preserved : goal.findings-preserved
findings-preserved c =
    let findings = c.args.findings.now in
    let related = c.args.related.now in
    let are = c.args.are_following in
    let finding = c.index-findings-index.result in
    let seconds = c.index-related-index.result in
    let before = map told_at c.args.told.now.items in
    let pairs = take c.findings.index (zip findings related) in
    let is_one = those (follows seconds) are (ap (λ (b : Bool). not (beq b are)) (sym (c.follows.ensures ∙ ap follows c.as_slice.ensures)) ∙ c.if-follows-are_following.false) in
    let next = those-next are findings related c.findings.index finding seconds true c.findings-test.true c.requires c.index-findings-index.is c.index-related-index.is is_one in
    ap (map told_at) c.in_ok-push.ensures.items ∙ map-append told_at c.findings.told.items _
    ∙ ap (λ (rs : List Related). map told_at c.findings.told.items ++ (finding, rs) ∷ []) c.as_slice.ensures
    ∙ ap (λ (ts : List Told). ts ++ (finding, seconds) ∷ []) c.findings.invariant ∙ append_assoc before (filter (is_of are) pairs) ((finding, seconds) ∷ [])
    ∙ ap (λ (ts : List Told). before ++ ts) (sym next)

pub returns : goal.returns
returns c =
    let before = map told_at c.args.told.now.items in
    c.findings.invariant ∙ ap (λ (ts : List Told). before ++ filter (is_of c.args.are_following) ts) (pairs-all c.args.findings.now c.args.related.now c.findings.index c.requires c.findings-test.false)
