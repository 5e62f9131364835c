-- What was read is all of the input, or its front.
use Rattle.std.proofs.Common.{◌≡◌, ℕ, ◌+◌, ◌≤◌, List, [], ◌++◌, length, take, Option, None, Some, Result, IfSome, sym, ap, subst, ◌∙◌, arith, inl, inr}
use Rattle.std.specs.Io.KnownBytes.{Consumes, IsAtEnd}
use Rattle.std.proofs.lemmas.Bool.{cases_lt}
use Rattle.std.proofs.lemmas.List.{append-nil, take_at, take_all}
use Rattle.bq_model.specs.declared.fault.TextFault.{TextFault}
use Rattle.job_text.specs.declared.file.Unit.{Unit as JobUnit}
use Rattle.text_lines.specs.Reading.{most_bytes}
use Rattle.job_text.specs.Grammar.{jobs_of}
use Rattle.job_text.proofs.GrammarLemmas.{jobs_of-take}

-- what was read of a source with these bytes is their front, one byte longer than a text may be, or all of them
pub front_is_read : (bytes rest input : List ℕ) → bytes ≡ input ++ rest → length input ≤ most_bytes + 1 → (length input ≤ most_bytes → rest ≡ []) → input ≡ take (most_bytes + 1) bytes
front_is_read bytes rest input e most whole =
    elim (cases_lt most_bytes (length input)) [
      | inl long ↦ sym (take_at input rest (most_bytes + 1) (omega arith)) ∙ ap (take (most_bytes + 1)) (sym e)
      | inr short ↦
          let none = whole short in
          let all : bytes ≡ input = e ∙ ap (λ (xs : List ℕ). input ++ xs) none ∙ append-nil input in
          sym all ∙ sym (take_all (most_bytes + 1) bytes (rw all (omega arith)))
    ]

-- it has the same meaning as the whole
pub jobs_of-input : (before after : Option (List ℕ)) (input : List ℕ) (n : ℕ) (is : Result (List JobUnit) TextFault) → Consumes before after input → n ≡ length input → n ≤ most_bytes + 1 → (n ≤ most_bytes → IsAtEnd after)
    → jobs_of input ≡ is → IfSome before (λ bytes. jobs_of bytes ≡ is)
jobs_of-input None after input n is e len most whole found = tt
jobs_of-input (Some bytes) None input n is e len most whole found = absurd e
jobs_of-input (Some bytes) (Some rest) input n is e len most whole found =
    sym (jobs_of-take bytes) ∙ ap jobs_of (sym (front_is_read bytes rest input e (omega arith) (λ short. whole (omega arith)))) ∙ found

pub consumes_front : (before after : Option (List ℕ)) (input : List ℕ) (n : ℕ) → Consumes before after input → n ≡ length input → n ≤ most_bytes + 1 → (n ≤ most_bytes → IsAtEnd after)
    → IfSome before (λ bytes. Consumes before after (take (most_bytes + 1) bytes))
consumes_front None after input n e len most whole = tt
consumes_front (Some bytes) None input n e len most whole = absurd e
consumes_front (Some bytes) (Some rest) input n e len most whole = subst (λ (xs : List ℕ). bytes ≡ xs ++ rest) (front_is_read bytes rest input e (omega arith) (λ short. whole (omega arith))) e
