-- Explanations that are listed, one after another.
use Rattle.std.proofs.Common.{◌≡◌, ◌∙◌, ◌+◌, ◌<◌, ◌++◌, ◌∷◌, [], ℕ, Contains, List, ap, append_assoc, codes, flat_map, get_or, length, map, refl, subst, sym, take}
use Rattle.std.proofs.lemmas.List.{append-nil, map-append, take_more}
use Rattle.std.proofs.lemmas.List.Concat.{flat_map-append}
use Rattle.std.proofs.lemmas.List.Elements.{Contains-append_left, Contains-append_right}
use Rattle.idl_fault.specs.declared.code.Code.{Code}
use Rattle.idl_source.specs.declared.refusal.Refusal.{Refusal}
use Rattle.std.specs.List.{AllZip}
use Rattle.idl_explain.specs.Explained.{Names, headline, shown, topic_of}
use Rattle.idl_explain.specs.declared.explanation.Explanation.{Explanation}
use Rattle.idl_explain.specs.declared.explanation.Topic.{Topic}
use Rattle.idl_explain.specs.declared.explanation.Topic.TheVariants as topic
use Rattle.idl_tool.specs.Answered.{AreAllListed, AreListed, AreShown, lines_of, topics_in}
use Rattle.idl_tool.proofs.JsonLemmas.{zip-push}

topics_in-append : (es fs : List Explanation) → topics_in (es ++ fs) ≡ topics_in es ++ topics_in fs
topics_in-append [] fs = refl
topics_in-append (e ∷ es) fs = ap (λ ts. topic_of e.told ∷ ts) (topics_in-append es fs)

lines_of-append : (es fs : List Explanation) → lines_of (es ++ fs) ≡ lines_of es ++ lines_of fs
lines_of-append es fs = flat_map-append (λ (e : Explanation). headline e (codes "TOKEN")) es fs

-- lines of some topics, and then of others
pub listed-both : (ts us : List Topic) (before mid after : List ℕ) → AreListed ts before mid → AreListed us mid after → AreListed (ts ++ us) before after
listed-both ts us before mid after first second =
    let es = first.0 in
    let fs = second.0 in (
      es ++ fs,
      topics_in-append es fs ∙ ap (λ xs. xs ++ topics_in fs) first.1 ∙ ap (λ xs. ts ++ xs) second.1,
      second.2 ∙ ap (λ text. text ++ lines_of fs) first.2 ∙ append_assoc before (lines_of es) (lines_of fs) ∙ ap (λ text. before ++ text) (sym (lines_of-append es fs)),
    )

-- a line of one topic
pub listed-one : (t : Topic) (e : Explanation) (before after : List ℕ) → topic_of e.told ≡ t → after ≡ before ++ headline e (codes "TOKEN") → AreListed (t ∷ []) before after
listed-one t e before after is more =
    (e ∷ [], ap (λ x. x ∷ []) is, more ∙ ap (λ text. before ++ text) (sym (append-nil (headline e (codes "TOKEN")))))

-- a line more
pub listed-at : (ts : List Topic) (i : ℕ) (d : Topic) (e : Explanation) (before mid after : List ℕ) → i < length ts → AreListed (take i ts) before mid
    → topic_of e.told ≡ get_or ts i d → after ≡ mid ++ headline e (codes "TOKEN") → AreListed (take (i + 1) ts) before after
listed-at ts i d e before mid after within are is more =
    subst (λ (us : List Topic). AreListed us before after) (sym (take_more ts i d within))
    (listed-both (take i ts) (get_or ts i d ∷ []) before mid after are (listed-one (get_or ts i d) e mid after is more))

-- what is shown of a word more
pub shown-at : {W : Type 0} (f : W → List ℕ) (ws : List W) (i : ℕ) (d : W) (e : Explanation) (before mid after : List ℕ) → i < length ws → AreShown (map f (take i ws)) before mid
    → Names (f (get_or ws i d)) (topic_of e.told) → after ≡ (mid ++ 10 ∷ []) ++ shown e → AreShown (map f (take (i + 1) ws)) before after
shown-at f ws i d e before mid after within are names more =
    let es = are.0 in
    let word = f (get_or ws i d) in
    let tell : Explanation → List ℕ = λ x. 10 ∷ shown x in
    let words : map f (take (i + 1) ws) ≡ map f (take i ws) ++ word ∷ [] = ap (map f) (take_more ws i d within) ∙ map-append f (take i ws) (get_or ws i d ∷ []) in
    let zipped = zip-push Names (map f (take i ws)) (topics_in es) word (topic_of e.told) are.1 names in
    let both = subst (λ (ts : List Topic). AllZip Names (map f (take i ws) ++ word ∷ []) ts) (sym (topics_in-append es (e ∷ []))) zipped in
    let all = ap (λ text. flat_map tell es ++ text) (sym (append-nil (tell e))) ∙ sym (flat_map-append tell es (e ∷ [])) in (
      es ++ e ∷ [],
      subst (λ (us : List (List ℕ)). AllZip Names us (topics_in (es ++ e ∷ []))) (sym words) both,
      more ∙ append_assoc mid (10 ∷ []) (shown e) ∙ ap (λ text. text ++ tell e) are.2 ∙ append_assoc before (flat_map tell es) (tell e) ∙ ap (λ text. before ++ text) all,
    )

-- lines of all codes and all refusals are those of all topics
pub listed-all : (codes_listed refusals_listed : List Topic) (before mid after : List ℕ) → AreListed codes_listed before mid → AreListed refusals_listed mid after
    → ((c : Code) → Contains codes_listed (topic.Code c)) → ((r : Refusal) → Contains refusals_listed (topic.Refusal r)) → AreAllListed before after
listed-all codes_listed refusals_listed before mid after first second code_there refusal_there =
    let both = listed-both codes_listed refusals_listed before mid after first second in
    let all = codes_listed ++ refusals_listed in
    (both.0, (λ t. subst (λ (ts : List Topic). Contains ts t) (sym both.1) (there t)), both.2)
  where
    there : (t : Topic) → Contains (codes_listed ++ refusals_listed) t
    there (topic.Code c) = Contains-append_left codes_listed refusals_listed (topic.Code c) (code_there c)
    there (topic.Refusal r) = Contains-append_right codes_listed refusals_listed (topic.Refusal r) (refusal_there r)
