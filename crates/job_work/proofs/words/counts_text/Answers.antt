use Rattle.std.proofs.Common.{◌≡◌, ◌≢◌, ℕ, List, [], ◌∷◌, ◌++◌, map, length, Bor, codes, decimal, ap, ◌∙◌, refl, arith, length-append, rules}
use Rattle.std.specs.List.{join_with_byte}
use Rattle.std.specs.Map.Iter.{deref_pair}
use Rattle.std.proofs.lemmas.Map.Iter.{iter_end}
use Rattle.job_work.specs.Words.{entry_text, entries_text}
use Rattle.job_work.proofs.Joined.{joined_push}
use Rattle.job_work.proofs.words.counts_text.Goals as goal

-- an entry has its `=`
entry_text-filled : (e : List ℕ × ℕ) → entry_text e ≢ []
entry_text-filled e is =
    absurd (omega (arith, ap length is, length-append (e.0 ++ codes "=") (decimal e.1), length-append e.0 (codes "=")))

pub loop-word-preserved : goal.loop-word-preserved
loop-word-preserved c =
    joined_push 32 (λ e. entry_text (e.0.now.now, e.1.now)) (λ e. entry_text-filled _) c.loop-word.yielded
    (c.in-Some.word, c.in-Some.count) c.loop-word.text.items c.push_entry.new.text.items c.loop-word.invariant
    c.in_ok-push_entry.ensures.first c.in_ok-push_entry.ensures.later

entries_yielded : (xs : List (Bor (Bor (List ℕ)) × Bor ℕ))
    → map (λ e. entry_text (e.0.now.now, e.1.now)) xs
    ≡ map entry_text (map (λ (e : Bor (List ℕ) × ℕ). (e.0.now, e.1)) (map deref_pair xs))
entries_yielded [] = refl
entries_yielded (x ∷ xs) = ap (λ l. entry_text (x.0.now.now, x.1.now) ∷ l) (entries_yielded xs)

-- at the end all entries were yielded
pub returns : goal.returns
returns c =
    let all : map deref_pair c.loop-word.yielded ≡ c.args.counts.now.entries = search (rules, iter_end) in
    c.loop-word.invariant ∙ ap (join_with_byte 32) (entries_yielded c.loop-word.yielded)
    ∙ ap (λ es. entries_text (map (λ (e : Bor (List ℕ) × ℕ). (e.0.now, e.1)) es)) all
