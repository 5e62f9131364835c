-- The first of the causes that apply to the parts of a line, and to the whole line.
use Rattle.std.proofs.Common.{◌≡◌, ℕ, ◌≤◌, true, false, Bool, List, [], ◌∷◌, ◌++◌, Option, Some, None, Result, Ok, Err, refl, sym, subst, arith, append-nil, All, ◌==◌, nat_le, leb-true, leb-false, if◌then◌else◌}
use Rattle.std.specs.Bool.{⊤}
use Rattle.std.proofs.lemmas.List.Elements.{All-nil, All-cons, All-append, All-weaker, Contains-push, Contains-append_left, Contains-append_right}
use Rattle.bq_model.specs.declared.fault.TextCause.{TextCause}
use Rattle.bq_model.specs.declared.fault.TextCause.TheVariants.{NotText, NoHeader, BadNumber}
use Rattle.text_lines.specs.Cause.{rank, both, causes, IsFirstCause, NamesFirst}
use Rattle.text_lines.specs.Lines.{is_text}
use Rattle.text_lines.specs.Words.{words_of, is_header, is_passed_over}
use Rattle.text_lines.specs.Parts.{or_bad_number, ◌>>=◌}
use Rattle.text_lines.specs.Reading.{words_line, text_line}
use Rattle.text_lines.specs.LineCauses.{word_causes, line_causes}

-- whether no cause of these comes before this place in the order
abbrev pub AreBehind : ℕ → List TextCause → Type 0
AreBehind place applying = All (λ cause. place ≤ rank cause) applying

-- whether a part's cause, if it has one, comes at this place or before it
abbrev pub IsEarly : {A : Type 0} → ℕ → Result A TextCause → Type 0
IsEarly place (Ok found) = ⊤
IsEarly place (Err cause) = rank cause ≤ place

-- ---- causes beside each other

pub IsFirstCause-alone : (cause : TextCause) → IsFirstCause (cause ∷ []) cause
IsFirstCause-alone cause = record {
  applies = Contains-push [] cause;
  first = All-cons (λ other. rank cause ≤ rank other) cause [] (omega arith) (All-nil (λ other. rank cause ≤ rank other));
}

pub IsFirstCause-before : (some others : List TextCause) (cause : TextCause) → IsFirstCause some cause → AreBehind (rank cause) others → IsFirstCause (some ++ others) cause
IsFirstCause-before some others cause here behind = record {
  applies = Contains-append_left some others cause here.applies;
  first = All-append (λ other. rank cause ≤ rank other) some others here.first behind;
}

pub IsFirstCause-behind : (some others : List TextCause) (cause : TextCause) → AreBehind (rank cause) some → IsFirstCause others cause → IsFirstCause (some ++ others) cause
IsFirstCause-behind some others cause behind here = record {
  applies = Contains-append_right some others cause here.applies;
  first = All-append (λ other. rank cause ≤ rank other) some others behind here.first;
}

AreBehind-lower : (high low : ℕ) (applying : List TextCause) → low ≤ high → AreBehind high applying → AreBehind low applying
AreBehind-lower high low applying lower behind =
    All-weaker (λ cause. high ≤ rank cause) (λ cause. low ≤ rank cause) (λ cause is. omega arith) applying behind

-- no cause comes before the first place
AreBehind-none : (applying : List TextCause) → AreBehind 0 applying
AreBehind-none [] = All-nil (λ cause. 0 ≤ rank cause)
AreBehind-none (cause ∷ applying) = All-cons (λ other. 0 ≤ rank other) cause applying (omega arith) (AreBehind-none applying)

-- ---- parts

-- a part has the one cause that applies to it
pub NamesFirst-part : {A : Type 0} (part : Result A TextCause) → NamesFirst (causes part) part
NamesFirst-part (Ok found) = refl
NamesFirst-part (Err cause) = IsFirstCause-alone cause

pub NamesFirst-both : {A B : Type 0} (some others : List TextCause) (one : Result A TextCause) (other : Result B TextCause)
    → NamesFirst some one → NamesFirst others other → NamesFirst (some ++ others) (both one other)
NamesFirst-both some others (Ok a) (Ok b) none none_either = rw none none_either
NamesFirst-both some others (Ok a) (Err cause) none first = subst (λ (before : List TextCause). IsFirstCause (before ++ others) cause) (sym none) first
NamesFirst-both some others (Err cause) (Ok b) first none =
    subst (λ (behind : List TextCause). IsFirstCause (some ++ behind) cause) (sym none) (subst (λ (all : List TextCause). IsFirstCause all cause) (sym (append-nil some)) first)
NamesFirst-both some others (Err one) (Err other) first_here first_there =
    elim (nat_le (rank one) (rank other)) as (λ b. nat_le (rank one) (rank other) ≡ b → IsFirstCause (some ++ others) (if b then one else other)) [
      | true ↦ λ low. IsFirstCause-before some others one first_here (AreBehind-lower (rank other) (rank one) others (leb-true (rank one) (rank other) low) first_there.first)
      | false ↦ λ high.
          let lower = leb-false (rank one) (rank other) high in
          IsFirstCause-behind some others other (AreBehind-lower (rank one) (rank other) some (omega arith) first_here.first) first_there
    ] refl

-- a part that can have a cause only where the one before it has none, and whose causes all come later in the order
pub NamesFirst-then : {A B : Type 0} (place : ℕ) (some others : List TextCause) (part : Result A TextCause) (next : A → Result B TextCause)
    → NamesFirst some part → IsEarly place part → AreBehind place others → ((found : A) → NamesFirst others (next found)) → NamesFirst (some ++ others) (part >>= next)
NamesFirst-then place some others (Ok found) next none early behind names =
    subst (λ (before : List TextCause). NamesFirst (before ++ others) (next found)) (sym none) (names found)
NamesFirst-then place some others (Err cause) next first early behind names =
    IsFirstCause-before some others cause first (AreBehind-lower place (rank cause) others early behind)

-- ---- choices, and causes that come early

pub NamesFirst-if : {A : Type 0} (test : Bool) (some others : List TextCause) (one other : Result A TextCause)
    → NamesFirst some one → NamesFirst others other → NamesFirst (if test then some else others) (if test then one else other)
NamesFirst-if true some others one other here there = here
NamesFirst-if false some others one other here there = there

pub IsEarly-if : {A : Type 0} (place : ℕ) (test : Bool) (one other : Result A TextCause) → IsEarly place one → IsEarly place other → IsEarly place (if test then one else other)
IsEarly-if place true one other here there = here
IsEarly-if place false one other here there = there

pub IsEarly-both : {A B : Type 0} (place : ℕ) (one : Result A TextCause) (other : Result B TextCause) → IsEarly place one → IsEarly place other → IsEarly place (both one other)
IsEarly-both place (Ok a) (Ok b) here there = tt
IsEarly-both place (Ok a) (Err cause) here there = there
IsEarly-both place (Err cause) (Ok b) here there = here
IsEarly-both place (Err one) (Err other) here there =
    elim (nat_le (rank one) (rank other)) as (λ b. rank (if b then one else other) ≤ place) [
      | true ↦ here
      | false ↦ there
    ]

pub IsEarly-or_bad_number : {A : Type 0} (place : ℕ) (found : Option A) → rank BadNumber ≤ place → IsEarly place (or_bad_number found)
IsEarly-or_bad_number place None low = low
IsEarly-or_bad_number place (Some value) low = tt

-- ---- a whole line

module _ {S : Type 0} (name version : List ℕ) (meaning : ℕ → S → List (List ℕ) → Result S TextCause) (applying : ℕ → S → List (List ℕ) → List TextCause)
    (names : (number : ℕ) (state : S) (words : List (List ℕ)) → NamesFirst (applying number state words) (meaning number state words)) where
  header-names : (state : S) (header : Bool) → NamesFirst {A = S} (if header then [] else NoHeader ∷ []) (if header then Ok state else Err NoHeader)
  header-names state true = refl
  header-names state false = IsFirstCause-alone NoHeader

  behind-names : (number : ℕ) (state : S) (words : List (List ℕ)) (passed : Bool)
      → NamesFirst (if passed then [] else applying number state words) (if passed then Ok state else meaning number state words)
  behind-names number state words true = refl
  behind-names number state words false = names number state words

  words-names : (number : ℕ) (state : S) (words : List (List ℕ)) (first : Bool)
      → NamesFirst (if first then (if is_header name version words then [] else NoHeader ∷ []) else if is_passed_over words then [] else applying number state words)
      (if first then (if is_header name version words then Ok state else Err NoHeader) else if is_passed_over words then Ok state else meaning number state words)
  words-names number state words true = header-names state (is_header name version words)
  words-names number state words false = behind-names number state words (is_passed_over words)

  pub NamesFirst-line : (number : ℕ) (state : S) (line : List ℕ) → NamesFirst (line_causes name version applying number state line) (text_line name version meaning number state line)
  NamesFirst-line number state line =
      elim (is_text line) as (λ b. NamesFirst ((if b then [] else NotText ∷ []) ++ word_causes name version applying number state (words_of line)) (if b then words_line name version meaning number state (words_of line) else Err NotText)) [
        | true ↦ words-names number state (words_of line) (number == 1)
        | false ↦ IsFirstCause-before (NotText ∷ []) _ NotText (IsFirstCause-alone NotText) (AreBehind-none _)
      ]
