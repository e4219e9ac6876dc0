-- Types as they are written: what is around a type stands around its text.
use Rattle.std.proofs.Common.{◌≡◌, ◌∙◌, ℕ, List, [], ◌∷◌, ◌++◌, Option, sym, ap, append_assoc, flat_map}
use Rattle.std.proofs.lemmas.Grind.{flat_map-append}
use Rattle.std.proofs.lemmas.List.{append-nil}
use Rattle.idl_repo.proofs.WriteLemmas.{text_over-append}
use Rattle.idl_repo.specs.Pieces.{says, text_over}
use Rattle.idl_repo.specs.TypeCode.{element_pieces, layer_end, layer_word, layers_begin, written_type}
use Rattle.idl_entity.specs.DataType.{arrays_of, plain_type, with_arrays, with_layer}
use Rattle.idl_env.specs.declared.answering.answer.Answer.{Answer}
use Rattle.idl_entity.specs.declared.data_type.DataType.{DataType}
use Rattle.idl_entity.specs.declared.data_type.Element.{Element}
use Rattle.idl_entity.specs.declared.data_type.Layer.{Layer}
use Rattle.idl_entity.specs.declared.data_type.Layer.TheVariants.{Array}
use Rattle.idl_env.specs.declared.keys.key.Key.{Key}

-- layers with one more around them
begin-more : (layers : List Layer) (l : Layer) → layers_begin (layers ++ l ∷ []) ≡ layer_word l ++ layers_begin layers
begin-more [] l = sym (append-nil (layer_word l))
begin-more (k ∷ layers) l = ap (λ w. w ++ layer_word k) (begin-more layers l) ∙ append_assoc (layer_word l) (layers_begin layers) (layer_word k)

end-more : (layers : List Layer) (l : Layer) → flat_map layer_end (layers ++ l ∷ []) ≡ flat_map layer_end layers ++ layer_end l
end-more layers l = flat_map-append layer_end layers (l ∷ []) ∙ ap (λ w. flat_map layer_end layers ++ w) (append-nil (layer_end l))

-- what begins the layers, what they are around, and what ends them
text-type : (bank : Key → Option Answer) (t : DataType) → text_over bank (written_type t) ≡ layers_begin t.layers ++ (text_over bank (element_pieces t.element) ++ flat_map layer_end t.layers)
unfolding text_over
text-type bank t =
    let ends = flat_map layer_end t.layers in
    ap (λ w. layers_begin t.layers ++ w) (text_over-append bank (element_pieces t.element) (says ends) ∙ ap (λ w. text_over bank (element_pieces t.element) ++ w) (append-nil ends))

pub text-nested : (bank : Key → Option Answer) (l : Layer) (t : DataType) → text_over bank (written_type (with_layer l t)) ≡ layer_word l ++ (text_over bank (written_type t) ++ layer_end l)
text-nested bank l t =
    let word = layer_word l in
    let begins = layers_begin t.layers in
    let inside = text_over bank (element_pieces t.element) in
    let ends = flat_map layer_end t.layers in
    text-type bank (with_layer l t)
    ∙ ap (λ w. w ++ (inside ++ flat_map layer_end (t.layers ++ l ∷ []))) (begin-more t.layers l)
    ∙ ap (λ w. (word ++ begins) ++ (inside ++ w)) (end-more t.layers l)
    ∙ append_assoc word begins (inside ++ (ends ++ layer_end l))
    ∙ ap (λ w. word ++ (begins ++ w)) (sym (append_assoc inside ends (layer_end l)))
    ∙ ap (λ w. word ++ w) (sym (append_assoc begins (inside ++ ends) (layer_end l)))
    ∙ ap (λ w. word ++ (w ++ layer_end l)) (sym (text-type bank t))

pub text-plain : (bank : Key → Option Answer) (e : Element) → text_over bank (written_type (plain_type e)) ≡ text_over bank (element_pieces e)
text-plain bank e = text-type bank (plain_type e) ∙ append-nil (text_over bank (element_pieces e))

pub arrays-nested : (n : ℕ) (lengths : List ℕ) (t : DataType) → with_arrays (n ∷ lengths) t ≡ with_layer (Array n) (with_arrays lengths t)
arrays-nested n lengths t = ap (λ (layers : List Layer). record t { layers = layers }) (sym (append_assoc t.layers (arrays_of lengths) (Array n ∷ [])))
