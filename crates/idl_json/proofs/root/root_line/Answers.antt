use Rattle.std.proofs.Common.{◌≡◌, ◌∙◌, ◌++◌, ◌∷◌, [], ℕ, false, List, ap, codes, map, sym}
use Rattle.serde_json.proofs.OnLiterals.{serde_json_on_literals}
use Rattle.serde_json.specs.Data.{boolean}
use Rattle.serde_json.specs.View.{items_of}
use Rattle.serde_json.specs.Written.{compact_text, items_text}
use Rattle.idl_json.specs.Listed.{row_json}
use Rattle.idl_json.specs.Root.{Root, root_json, root_of}
use Rattle.idl_json.specs.Text.{text_json, texts_json}
use Rattle.serde_json.specs.Data.{Data}
use Rattle.idl_json.proofs.LineLemmas.{behind, in-a-row, row-behind}
use Rattle.idl_json.proofs.root.root_line.Goals as goal

-- the object's text, part by part
parts : (root : Root) (found : List Data) → compact_text (root_json root found) ++ 10 ∷ []
    ≡ codes "{\"absent\":" ++ (compact_text (texts_json root.absent) ++ (codes ",\"asked\":" ++ (compact_text (texts_json root.asked)
    ++ (codes ",\"diagnostics\":[" ++ (items_text false (items_of found) ++ (codes ",\"faulty\":" ++ (compact_text (boolean root.is_faulty)
    ++ (codes ",\"listing\":[" ++ (items_text false (items_of (map row_json root.listing)) ++ (codes ",\"root\":" ++ (compact_text (text_json root.name) ++ (125 ∷ 10 ∷ []))))))))))))
unfolding serde_json_on_literals
parts root found =
    row-behind (codes "{\"absent\":") (compact_text (texts_json root.absent)) (codes ",\"asked\":") (compact_text (texts_json root.asked)) (codes ",\"diagnostics\":[")
    (items_text false (items_of found)) (codes ",\"faulty\":") (compact_text (boolean root.is_faulty)) (codes ",\"listing\":[") (items_text false (items_of (map row_json root.listing)))
    (codes ",\"root\":") (compact_text (text_json root.name)) (125 ∷ []) (10 ∷ [])

pub returns : goal.returns
returns c =
    let root = root_of c.args.root.now in
    let found = c.in_ok-push_diagnostics.ensures in
    let a = behind [] _ _ (codes "{\"absent\":") c.new-line.ensures.items c.in_ok-extend_from_slice.ensures.items in
    let b = behind _ _ _ _ a c.in_ok-push_names.ensures in
    let d = behind _ _ _ (codes ",\"asked\":") b c.in_ok-extend_from_slice-2.ensures.items in
    let e = behind _ _ _ _ d c.in_ok-push_names-2.ensures in
    let f = behind _ _ _ (codes ",\"diagnostics\":[") e c.in_ok-extend_from_slice-3.ensures.items in
    let g = behind _ _ _ _ f found.2 in
    let h = behind _ _ _ (codes ",\"faulty\":") g c.in_ok-extend_from_slice-4.ensures.items in
    let i = behind _ _ _ _ h (c.in_ok-extend_from_slice-5.ensures.items ∙ ap (λ (t : List ℕ). c.extend_from_slice-4.new.self.items ++ t) c.truth.ensures) in
    let j = behind _ _ _ (codes ",\"listing\":[") i c.in_ok-extend_from_slice-6.ensures.items in
    let k = behind _ _ _ _ j c.in_ok-push_rows.ensures in
    let l = behind _ _ _ (codes ",\"root\":") k c.in_ok-extend_from_slice-7.ensures.items in
    let m = behind _ _ _ _ l (c.in_ok-push_text.ensures ∙ ap (λ (t : List ℕ). c.extend_from_slice-7.new.self.items ++ compact_text (text_json t)) c.as_bytes.ensures.bytes) in
    let n = behind _ _ _ (125 ∷ 10 ∷ []) m c.in_ok-extend_from_slice-8.ensures.items in
    let row =
    in-a-row (codes "{\"absent\":") (compact_text (texts_json root.absent)) (codes ",\"asked\":") (compact_text (texts_json root.asked)) (codes ",\"diagnostics\":[")
    (items_text false (items_of found.0)) (codes ",\"faulty\":") (compact_text (boolean root.is_faulty)) (codes ",\"listing\":[") (items_text false (items_of (map row_json root.listing)))
    (codes ",\"root\":") (compact_text (text_json root.name)) (125 ∷ 10 ∷ []) in
    (found.0, found.1, n ∙ row ∙ sym (parts root found.0))
