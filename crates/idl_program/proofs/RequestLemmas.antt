-- What the program's words are to clap.
use Rattle.std.proofs.Common.{◌≡◌, ◌∙◌, ◌∷◌, List, [], true, ap, inl, map, refl, subst, sym}
use Rattle.std.specs.Borrow.{Bor}
use Rattle.clap.specs.Words.{App, Row, Text, fault_of, found_of, is_simple_and_free, matches_of, rows_of}
use Rattle.clap.specs.declared.error.kind.ErrorKind.{ErrorKind}
use Rattle.clap.specs.declared.parser.matches.ArgMatches.{ArgMatches}
use Rattle.idl_driver.specs.Parsed.{IsParsedBy, IsRefusal, SaysWrong, Tells}
use Rattle.idl_program.specs.Words.{AreWrong, faults_in, found_in, idlc}
use Rattle.idl_driver.specs.declared.words.ParsedWords.{ParsedWords}
use Rattle.idl_driver.specs.declared.words.ParsedWords.TheVariants as parsed
use Rattle.idl_driver.specs.declared.words.WordsFault.{WordsFault}
use Rattle.idl_driver.specs.declared.words.WordsFault.TheVariants.{Wrong, NoMemory}

pub idlc_is_free : is_simple_and_free idlc ≡ true
unfolding idlc
idlc_is_free = refl

-- what the program's command finds in words that it takes
pub found : (app : App) (words : List Text) (rows : List Row) → app ≡ idlc → rows ≡ matches_of app words → rows ≡ found_in words
unfolding found_in
found app words rows is e = e ∙ ap (λ (a : App). matches_of a words) is

pub none_wrong : (app : App) (words : List Text) → app ≡ idlc → fault_of app words ≡ [] → faults_in words ≡ []
unfolding faults_in
none_wrong app words is none = sym (ap (λ (a : App). fault_of a words) is) ∙ none

-- what is told of words
pub told : (app : App) (words : List Text) (sort : ErrorKind → Type 0) → app ≡ idlc → Tells sort (fault_of app words) → Tells sort (faults_in words)
unfolding faults_in
told app words sort is tells = subst (λ (a : App). Tells sort (fault_of a words)) is tells

pub refused : (app : App) (words : List Text) (fault : WordsFault) → app ≡ idlc → SaysWrong (Tells IsRefusal (fault_of app words)) fault → SaysWrong (AreWrong words) fault
refused app words (Wrong text) is tells = inl (told app words IsRefusal is tells)
refused app words NoMemory is tells = tt

-- a list is empty where its texts are
pub none_of : (xs : List (Bor Text)) → map (λ v. v.now) xs ≡ [] → xs ≡ []
none_of [] e = refl
none_of (x ∷ xs) e = absurd (cc)

-- what a parse by the program's command gives
pub taken : (app : App) (words : List Text) (p : ParsedWords) (m : ArgMatches) → app ≡ idlc → p ≡ parsed.Taken m → IsParsedBy app words p → (faults_in words ≡ []) × (rows_of (found_of m) ≡ found_in words)
taken app words p m is same held =
    let has : IsParsedBy app words (parsed.Taken m) = subst (λ (q : ParsedWords). IsParsedBy app words q) same held in
    (none_wrong app words is has.0, found app words (rows_of (found_of m)) is has.1)
