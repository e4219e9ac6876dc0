-- What `explain` answers.
use Rattle.std.specs.Prelude.{◌≡◌, ◌++◌, ◌∷◌, ℕ, List, [], Contains, Option, codes, map}
use Rattle.std.specs.List.{AllZip, flat_map}
use Rattle.idl_source.specs.devices.Device.{append}
use Rattle.idl_explain.specs.Explained.{Names, headline, shown, topic_of}
use Rattle.idl_explain.specs.declared.explanation.Explanation.{Explanation}
use Rattle.idl_explain.specs.declared.explanation.Topic.{Topic}

-- what is explained, in order
abbrev pub topics_in : List Explanation → List Topic
topics_in explanations = map (λ e. topic_of e.told) explanations

-- a line of each explanation, with this word for the token
abbrev pub lines_of : List Explanation → List ℕ
lines_of explanations = flat_map (λ e. headline e (codes "TOKEN")) explanations

-- all that is shown of what a word names stands behind a text
abbrev pub IsShown : List ℕ → List ℕ → List ℕ → Type 0
IsShown word before after =
    (explanation : Explanation) × Names word (topic_of explanation.told)
    × (after ≡ before ++ shown explanation)

-- all that is shown of what each of these words names does, behind an empty line each
abbrev pub AreShown : List (List ℕ) → List ℕ → List ℕ → Type 0
AreShown words before after =
    (explanations : List Explanation) × AllZip Names words (topics_in explanations)
    × (after ≡ before ++ flat_map (λ e. 10 ∷ shown e) explanations)

-- a line of each of these topics does
abbrev pub AreListed : List Topic → List ℕ → List ℕ → Type 0
AreListed topics before after =
    (explanations : List Explanation) × (topics_in explanations ≡ topics)
    × (after ≡ before ++ lines_of explanations)

-- a line of each topic does, of which none is left out
abbrev pub AreAllListed : List ℕ → List ℕ → Type 0
AreAllListed before after =
    (explanations : List Explanation)
    × ((topic : Topic) → Contains (topics_in explanations) topic)
    × (after ≡ before ++ lines_of explanations)

-- what words name is shown behind a text, with an empty line between; without a word all is listed
abbrev pub AreExplained : List (List ℕ) → List ℕ → List ℕ → Type 0
AreExplained [] before after = AreAllListed before after
AreExplained (word ∷ words) before after =
    (first : List ℕ) × IsShown word before first × AreShown words first after

-- what went out for words
abbrev pub IsExplained : List (List ℕ) → Option (List ℕ) → Option (List ℕ) → Type 0
IsExplained words before after =
    (text : List ℕ) × (after ≡ append before text) × AreExplained words [] text
