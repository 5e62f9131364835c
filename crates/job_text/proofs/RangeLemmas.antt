-- Each line keeps the ranges of a file.
use Rattle.std.proofs.Common.{◌≡◌, ℕ, ◌+◌, ◌^◌, ◌<◌, ◌≤◌, List, [], ◌∷◌, ◌++◌, length, Option, Some, None, Result, Ok, Err, refl, ap, subst, ◌∙◌, arith, All, nat_le, ◌&&◌, leb-true, codes, leb-false, length-append}
use Rattle.std.specs.Str.{bytes_eq}
use Rattle.std.specs.Option.{option_map, option_and_then, IfSome}
use Rattle.std.proofs.lemmas.List.Elements.{All-nil, All-cons, All-tail, All-append, All-push}
use Rattle.std.proofs.lemmas.List.Sums.{sum_by-append}
use Rattle.std.proofs.lemmas.Bool.{and_parts}
use Rattle.bq_model.specs.declared.fault.TextCause.{TextCause}
use Rattle.text_lines.specs.Cause.{both}
use Rattle.text_lines.specs.Number.{number_of, number_within, within}
use Rattle.text_lines.specs.Hex.{hex_of, byte_of}
use Rattle.text_lines.specs.Words.{IsWord}
use Rattle.text_lines.proofs.NumberLemmas.{number_of-below, some_if}
use Rattle.text_lines.proofs.HexLemmas.{AreBytes-hex_of, byte_of-below}
use Rattle.text_lines.proofs.ReadingLemmas.{text_state-keeps, if_ok}
use Rattle.job_work.specs.declared.job.Job.{Job}
use Rattle.job_work.specs.declared.job.Job.TheVariants.{Sum, Digest, Count, Mix, Words}
use Rattle.job_text.specs.declared.file.Unit.{Unit}
use Rattle.job_text.specs.declared.block.Block.{Block}
use Rattle.text_lines.specs.Each.{each_of}
use Rattle.text_lines.specs.Parts.{or_bad_number, ◌>>=◌}
use Rattle.job_text.specs.JobFile.{AreBytes, IsInRange, IsUnit, IsJobFile, job_count, most_jobs, most_lane, most_turns, most_in_unit}
use Rattle.job_text.specs.JobWords.{lane_of, lane_of_number, digest_of, count_of, mix_of, job_of, job_of_kind, lane_job_of, only_lane_of}
use Rattle.job_text.specs.Grammar.{LinesSay, unit_of, add_job, put_job, end_block, open_block, outside, inside, line_in, meaning, units_at_end, nothing_yet, progress_of}
use Rattle.job_text.specs.Counted.{jobs_in}
use Rattle.text_lines.proofs.EachLemmas.{All-each_of}
use Rattle.job_text.specs.InProgress.{IsOpenBlock, IsInProgress}

-- ---- cases

-- a step behind another
pub behind_ok : {A B E P : Type 0} (first : Result A E) (next : A → Result B E) (value : B) → (first >>= next) ≡ Ok value → ((found : A) → first ≡ Ok found → next found ≡ Ok value → P) → P
behind_ok (Ok found) next value is found_is = found_is found refl is
behind_ok (Err error) next value is found_is = cc is

-- ---- jobs and lanes

-- what a number or bytes give
found_ok : {A : Type 0} (kind : A → Job) (found : Option A) (job : Job) → ((x : A) → found ≡ Some x → IsInRange (kind x)) → or_bad_number (option_map kind found) ≡ Ok job → IsInRange job
found_ok kind None job ranges is = cc is
found_ok kind (Some x) job ranges is =
    let same : kind x ≡ job = cc is in
    subst IsInRange same (ranges x refl)

pub lane_of_number-ok : (found : Option ℕ) (lane : ℕ) → lane_of_number found ≡ Ok lane → lane ≤ most_lane
lane_of_number-ok None lane is = cc is
lane_of_number-ok (Some number) lane is =
    if_ok (nat_le number most_lane) (Ok number) _ lane is
    (λ low same_is.
    let same : number ≡ lane = cc same_is in
    let low_is = leb-true number most_lane low in
    omega arith)
    (λ high is_not. cc is_not)

digest_of-ok : (words : List (List ℕ)) (job : Job) → digest_of words ≡ Ok job → IsInRange job
digest_of-ok [] job is = cc is
digest_of-ok (bytes ∷ []) job is = found_ok Digest (hex_of bytes) job (AreBytes-hex_of bytes) is
digest_of-ok (bytes ∷ next ∷ others) job is = cc is

counted_ok : (byte : Option ℕ) (bytes : Option (List ℕ)) (job : Job) → ((b : ℕ) → byte ≡ Some b → b < 256) → ((bs : List ℕ) → bytes ≡ Some bs → AreBytes bs)
    → or_bad_number (option_and_then (λ counted. option_and_then (λ among. Some (Count counted among)) bytes) byte) ≡ Ok job → IsInRange job
counted_ok None bytes job one all is = cc is
counted_ok (Some byte) None job one all is = cc is
counted_ok (Some byte) (Some bytes) job one all is =
    let same : Count byte bytes ≡ job = cc is in
    subst IsInRange same (one byte refl, all bytes refl)

count_of-ok : (words : List (List ℕ)) (job : Job) → count_of words ≡ Ok job → IsInRange job
count_of-ok [] job is = cc is
count_of-ok (byte ∷ []) job is = cc is
count_of-ok (byte ∷ bytes ∷ []) job is = counted_ok (byte_of byte) (hex_of bytes) job (byte_of-below byte) (AreBytes-hex_of bytes) is
count_of-ok (byte ∷ bytes ∷ next ∷ others) job is = cc is

-- a number in a range
within-some : (most number found : ℕ) → within 0 most number ≡ Some found → found ≤ most
within-some most number found is =
    let parts = some_if (nat_le 0 number && nat_le number most) number found is in
    let low = leb-true number most (and_parts (nat_le 0 number) (nat_le number most) parts.0).1 in
    let same = parts.1 in
    omega arith

pub number_within-some : (most : ℕ) (word : List ℕ) (found : ℕ) → number_within 0 most word ≡ Some found → found ≤ most
number_within-some most word found is =
    elim (number_of word) as (λ o. option_and_then (within 0 most) o ≡ Some found → found ≤ most) [
      | None ↦ λ is. cc is
      | Some number ↦ λ is. within-some most number found is
    ] is

mixed_ok : (start turns : Option ℕ) (job : Job) → ((found : ℕ) → start ≡ Some found → found < 2 ^ 64) → ((found : ℕ) → turns ≡ Some found → found ≤ most_turns)
    → or_bad_number (option_and_then (λ first. option_and_then (λ often. Some (Mix first often)) turns) start) ≡ Ok job → IsInRange job
mixed_ok None turns job small few is = cc is
mixed_ok (Some start) None job small few is = cc is
mixed_ok (Some start) (Some turns) job small few is =
    let same : Mix start turns ≡ job = cc is in
    subst IsInRange same (small start refl, few turns refl)

mix_of-ok : (words : List (List ℕ)) (job : Job) → mix_of words ≡ Ok job → IsInRange job
mix_of-ok [] job is = cc is
mix_of-ok (start ∷ []) job is = cc is
mix_of-ok (start ∷ turns ∷ []) job is = mixed_ok (number_of start) (number_within 0 most_turns turns) job (number_of-below start) (number_within-some most_turns turns) is
mix_of-ok (start ∷ turns ∷ next ∷ others) job is = cc is

job_of_kind-ok : (kind : List ℕ) (words : List (List ℕ)) (job : Job) → All IsWord words → job_of_kind kind words ≡ Ok job → IsInRange job
job_of_kind-ok kind words job are is =
    if_ok (bytes_eq kind (codes "sum")) _ _ job is (λ _ sum. found_ok Sum (each_of number_of words) job (All-each_of number_of (λ number. number < 2 ^ 64) number_of-below words) sum) (λ _ is1.
    if_ok (bytes_eq kind (codes "digest")) _ _ job is1 (λ _ digest. digest_of-ok words job digest) (λ _ is2.
    if_ok (bytes_eq kind (codes "count")) _ _ job is2 (λ _ count. count_of-ok words job count) (λ _ is3.
    if_ok (bytes_eq kind (codes "mix")) _ _ job is3 (λ _ mix. mix_of-ok words job mix) (λ _ is4.
    if_ok (bytes_eq kind (codes "words")) _ _ job is4 (λ _ any. (let same : Words words ≡ job = cc any in subst IsInRange same are)) (λ _ none. cc none)))))

job_of-ok : (words : List (List ℕ)) (job : Job) → All IsWord words → job_of words ≡ Ok job → IsInRange job
job_of-ok [] job are is = cc is
job_of-ok (kind ∷ arguments) job are is = job_of_kind-ok kind arguments job (All-tail IsWord kind arguments are) is

pub both-ok : {A B P : Type 0} (one : Result A TextCause) (other : Result B TextCause) (pair : A × B) → both one other ≡ Ok pair → (one ≡ Ok pair.0 → other ≡ Ok pair.1 → P) → P
both-ok (Ok a) (Ok b) pair is found =
    let same : (a, b) ≡ pair = cc is in
    found (ap (λ (p : _ × _). Ok p.0) same) (ap (λ (p : _ × _). Ok p.1) same)
both-ok (Ok a) (Err d) pair is found = cc is
both-ok (Err c) (Ok b) pair is found = cc is
both-ok (Err c) (Err d) pair is found = cc is

lane_job_of-ok : (words : List (List ℕ)) (found : ℕ × Job) → All IsWord words → lane_job_of words ≡ Ok found → (found.0 ≤ most_lane) × IsInRange found.1
lane_job_of-ok [] found are is = cc is
lane_job_of-ok (lane ∷ words) found are is =
    both-ok (lane_of lane) (job_of words) found is (λ lane_is job_is. (lane_of_number-ok (number_of lane) found.0 lane_is, job_of-ok words found.1 (All-tail IsWord lane words are) job_is))

only_lane_of-ok : (words : List (List ℕ)) (lane : ℕ) → only_lane_of words ≡ Ok lane → lane ≤ most_lane
only_lane_of-ok [] lane is = cc is
only_lane_of-ok (word ∷ []) lane is = lane_of_number-ok (number_of word) lane is
only_lane_of-ok (word ∷ next ∷ others) lane is = cc is

-- ---- lines

job_count-unit_of : (lane : ℕ) (jobs : List Job) → job_count (unit_of lane jobs) ≡ length jobs
job_count-unit_of lane [] = refl
job_count-unit_of lane (job ∷ jobs) = omega arith

pub job_count-more_jobs : (units : List Unit) (lane : ℕ) (jobs : List Job) → job_count (units ++ unit_of lane jobs) ≡ job_count units + length jobs
job_count-more_jobs units lane jobs =
    sum_by-append (λ (unit : Unit). length unit.jobs) units (unit_of lane jobs) ∙ ap (λ n. job_count units + n) (job_count-unit_of lane jobs)

-- jobs of a block are a unit that a file may have, if there are any
IsUnit-unit_of : (lane : ℕ) (jobs : List Job) → lane ≤ most_lane → length jobs ≤ most_in_unit → All IsInRange jobs → All IsUnit (unit_of lane jobs)
IsUnit-unit_of lane [] low few ranges = All-nil IsUnit
IsUnit-unit_of lane (job ∷ jobs) low few ranges =
    let unit : Unit = record { lane = lane; jobs = job ∷ jobs } in
    All-cons IsUnit unit [] (record { lane = low; some = omega arith; few = few; ranges = ranges }) (All-nil IsUnit)

-- units with the jobs of a block
units_with : (units : List Unit) (block : Block) → All IsUnit units → IsOpenBlock block → job_count units + length block.jobs ≤ most_jobs → IsInProgress (record { units = units ++ unit_of block.lane block.jobs; block = None })
units_with units block units_are open_is few =
    let count_is = job_count-more_jobs units block.lane block.jobs in
    record {
      units_are = All-append IsUnit units (unit_of block.lane block.jobs) units_are (IsUnit-unit_of block.lane block.jobs open_is.lane open_is.few open_is.ranges);
      block_is = tt;
      count = omega arith;
    }

add_job-keeps : (units : List Unit) (found : ℕ × Job) (next : LinesSay) → All IsUnit units → (found.0 ≤ most_lane) × IsInRange found.1 → add_job units found ≡ Ok next → IsInProgress next
add_job-keeps units found next units_are ranges is =
    let block : Block = record { line = 0; lane = found.0; jobs = found.1 ∷ [] } in
    let one_job : IsOpenBlock block = record { lane = ranges.0; few = omega arith; ranges = All-cons IsInRange found.1 [] ranges.1 (All-nil IsInRange) } in
    if_ok (nat_le most_jobs (job_count units)) _ _ next is (λ _ none. cc none) (λ room same_is.
    let few = leb-false most_jobs (job_count units) room in
    let said : LinesSay = record { units = units ++ unit_of found.0 (found.1 ∷ []); block = None } in
    let same : said ≡ next = cc same_is in
    subst IsInProgress same (units_with units block units_are one_job (omega arith)))

put_job-keeps : (units : List Unit) (block : Block) (job : Job) (next : LinesSay) → All IsUnit units → IsOpenBlock block → IsInRange job → put_job units block job ≡ Ok next → IsInProgress next
put_job-keeps units block job next units_are open_is range is =
    if_ok (nat_le most_in_unit (length block.jobs)) _ _ next is (λ _ none. cc none) (λ place more_is.
    if_ok (nat_le most_jobs (job_count units + length block.jobs)) _ _ next more_is (λ _ none. cc none) (λ room same_is.
    let in_unit = leb-false most_in_unit (length block.jobs) place in
    let few = leb-false most_jobs (job_count units + length block.jobs) room in
    let longer = length-append block.jobs (job ∷ []) in
    let more : Block = record { line = block.line; lane = block.lane; jobs = block.jobs ++ job ∷ [] } in
    let said : LinesSay = record { units = units; block = Some more } in
    let same : said ≡ next = cc same_is in
    let kept : IsInProgress said = record {
      units_are = units_are;
      block_is = record { lane = open_is.lane; few = omega arith; ranges = All-push IsInRange block.jobs job open_is.ranges range };
      count = omega arith;
    } in
    subst IsInProgress same kept))

end_block-keeps : (units : List Unit) (block : Block) (words : List (List ℕ)) (next : LinesSay) → All IsUnit units → IsOpenBlock block → job_count units + length block.jobs ≤ most_jobs
    → end_block units block words ≡ Ok next → IsInProgress next
end_block-keeps units block [] next units_are open_is few is =
    let said : LinesSay = record { units = units ++ unit_of block.lane block.jobs; block = None } in
    let same : said ≡ next = cc is in
    subst IsInProgress same (units_with units block units_are open_is few)
end_block-keeps units block (word ∷ words) next units_are open_is few is = cc is

open_block-keeps : (number : ℕ) (units : List Unit) (words : List (List ℕ)) (next : LinesSay) → All IsUnit units → job_count units ≤ most_jobs → open_block number units words ≡ Ok next → IsInProgress next
open_block-keeps number units words next units_are few is =
    behind_ok (only_lane_of words) _ next is (λ lane lane_is same_is.
    let said : LinesSay = record { units = units; block = Some (record { line = number; lane = lane; jobs = [] }) } in
    let same : said ≡ next = cc same_is in
    let kept : IsInProgress said = record {
      units_are = units_are;
      block_is = record { lane = only_lane_of-ok words lane lane_is; few = omega arith; ranges = All-nil IsInRange };
      count = omega arith;
    } in
    subst IsInProgress same kept)

outside-keeps : (number : ℕ) (units : List Unit) (words : List (List ℕ)) (next : LinesSay) → All IsWord words → All IsUnit units → job_count units ≤ most_jobs → outside number units words ≡ Ok next → IsInProgress next
outside-keeps number units [] next are units_are few is = cc is
outside-keeps number units (word ∷ words) next are units_are few is =
    if_ok (bytes_eq word (codes "job")) _ _ next is
    (λ _ job_is. behind_ok (lane_job_of words) (add_job units) next job_is (λ found found_is added. add_job-keeps units found next units_are (lane_job_of-ok words found (All-tail IsWord word words are) found_is) added))
    (λ _ other_is. if_ok (bytes_eq word (codes "block")) _ _ next other_is (λ _ opens. open_block-keeps number units words next units_are few opens) (λ _ none. cc none))

inside-keeps : (units : List Unit) (block : Block) (words : List (List ℕ)) (next : LinesSay) → All IsWord words → All IsUnit units → IsOpenBlock block → job_count units + length block.jobs ≤ most_jobs
    → inside units block words ≡ Ok next → IsInProgress next
inside-keeps units block [] next are units_are open_is few is = cc is
inside-keeps units block (word ∷ words) next are units_are open_is few is =
    if_ok (bytes_eq word (codes "put")) _ _ next is
    (λ _ put_is. behind_ok (job_of words) (put_job units block) next put_is (λ job job_is put. put_job-keeps units block job next units_are open_is (job_of-ok words job (All-tail IsWord word words are) job_is) put))
    (λ _ other_is. if_ok (bytes_eq word (codes "end")) _ _ next other_is (λ _ ends. end_block-keeps units block words next units_are open_is few ends) (λ _ none. cc none))

line_in-keeps : (block : Option Block) (number : ℕ) (units : List Unit) (words : List (List ℕ)) (next : LinesSay) → All IsWord words → All IsUnit units → IfSome block IsOpenBlock → job_count units + jobs_in block ≤ most_jobs
    → line_in block number units words ≡ Ok next → IsInProgress next
line_in-keeps None number units words next are units_are block_is few is = outside-keeps number units words next are units_are (omega arith) is
line_in-keeps (Some block) number units words next are units_are block_is few is = inside-keeps units block words next are units_are block_is few is

meaning-keeps : (number : ℕ) (so_far next : LinesSay) (words : List (List ℕ)) → All IsWord words → IsInProgress so_far → meaning number so_far words ≡ Ok next → IsInProgress next
meaning-keeps number so_far next words are kept is = line_in-keeps so_far.block number so_far.units words next are kept.units_are kept.block_is kept.count is

-- what all lines of a text say is in the ranges of a file
pub IsInProgress-progress_of : (text : List ℕ) (so_far : LinesSay) → progress_of text ≡ Ok so_far → IsInProgress so_far
IsInProgress-progress_of text so_far is =
    text_state-keeps IsInProgress (codes "bqjobs") (codes "1") meaning meaning-keeps nothing_yet so_far text
    (record { units_are = All-nil IsUnit; block_is = tt; count = omega arith }) is

pub IsJobFile-units_at_end : (so_far : LinesSay) (units : List Unit) → IsInProgress so_far → units_at_end so_far.units so_far.block ≡ Ok units → IsJobFile units
IsJobFile-units_at_end so_far units kept is =
    elim so_far.block as (λ b. job_count so_far.units + jobs_in b ≤ most_jobs → units_at_end so_far.units b ≡ Ok units → IsJobFile units) [
      | None ↦ λ few ends.
          let same : so_far.units ≡ units = cc ends in
          let file : IsJobFile so_far.units = record { units_are = kept.units_are; count = omega arith } in
          subst IsJobFile same file
      | Some block ↦ λ few ends. cc ends
    ] kept.count is
