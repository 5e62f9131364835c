-- Each line keeps what a file keeps.
use Rattle.std.proofs.Common.{◌≡◌, ℕ, ◌+◌, ◌^◌, ◌<◌, ◌≤◌, true, false, List, [], ◌∷◌, ◌++◌, length, get_or, take, Option, Some, None, Result, Ok, Err, refl, sym, ap, subst, ◌∙◌, arith, All, nat_le, leb-true, leb-false, codes, length-append, slice_get, option_map, ⊎_elim}
use Rattle.std.specs.Str.{bytes_eq}
use Rattle.std.proofs.lemmas.Bool.{cases_lt}
use Rattle.std.proofs.lemmas.List.{take_all, take-append-le, get_or_append_left, get_or_push}
use Rattle.std.proofs.lemmas.List.Elements.{All-nil, All-cons, All-tail, All-push}
use Rattle.std.proofs.lemmas.Option.{slice_get_within, slice_get-get_or, get_or_from_slice_get}
use Rattle.bq_model.specs.declared.fault.TextCause.{TextCause}
use Rattle.bq_model.specs.declared.fault.TextFault.{TextFault}
use Rattle.text_lines.specs.Cause.{both}
use Rattle.text_lines.specs.Hex.{hex_of, byte_of}
use Rattle.text_lines.specs.Number.{number_of, number_within}
use Rattle.text_lines.specs.Parts.{◌>>=◌, or_bad_number}
use Rattle.text_lines.specs.Words.{IsWord}
use Rattle.text_lines.proofs.HexLemmas.{AreBytes-hex_of, byte_of-below}
use Rattle.text_lines.proofs.NumberLemmas.{number_of-below}
use Rattle.text_lines.proofs.ReadingLemmas.{text_state-keeps, if_ok}
use Rattle.job_text.specs.JobFile.{most_turns}
use Rattle.job_text.specs.JobWords.{lane_of}
use Rattle.job_text.proofs.RangeLemmas.{behind_ok, both-ok, lane_of_number-ok, number_within-some}
use Rattle.dep_text.specs.declared.job.Arg.{Arg}
use Rattle.dep_text.specs.declared.job.Arg.TheVariants.{Number, Of}
use Rattle.dep_text.specs.declared.job.Piece.{Piece}
use Rattle.dep_text.specs.declared.job.Piece.TheVariants.{Plain, Of as OfBytes}
use Rattle.dep_text.specs.declared.job.DepWork.{DepWork}
use Rattle.dep_text.specs.declared.job.DepWork.TheVariants.{Sum, Digest, Count, Mix, Words}
use Rattle.dep_text.specs.declared.job.DepJob.{DepJob}
use Rattle.dep_text.specs.declared.job.Place.{Place}
use Rattle.dep_text.specs.declared.job.Place.TheVariants.{AsNumber, AsBytes}
use Rattle.dep_text.specs.Places.{serves}
use Rattle.dep_text.specs.DepFile.{Names, IsArg, IsPiece, IsDepWork, IsDepJob, IsDepFile, most_dep_jobs}
use Rattle.dep_text.specs.DepWords.{behind_mark, job_for, job_named, arg_of_parts, arg_of, piece_of_parts, piece_of, all_of, sum_of, digest_of, count_of, mix_of, work_of_kind, work_of, dep_job_of}
use Rattle.dep_text.specs.Grammar.{add_job, meaning, deps_of}
use Rattle.dep_text.specs.Levels.{most_levels, level_behind, levels_of}
use Rattle.dep_text.proofs.LevelLemmas.{levels_of-push}

-- ---- references

job_for-ok : (place : Place) (number : ℕ) (job : Option DepJob) (named : ℕ) → job_for place number job ≡ Ok named → (option_map (λ j. serves place j.work) job ≡ Some true) × (number ≡ named)
job_for-ok place number None named is = cc is
job_for-ok place number (Some job) named is =
    if_ok (serves place job.work) (Ok number) _ named is (λ fits same. (ap Some fits, cc same)) (λ _ none. cc none)

job_named-ok : (place : Place) (jobs : List DepJob) (number : Option ℕ) (named : ℕ) → job_named place jobs number ≡ Ok named → Names place jobs named
job_named-ok place jobs None named is = cc is
job_named-ok place jobs (Some number) named is =
    let parts = job_for-ok place number (slice_get jobs number) named is in
    subst (Names place jobs) parts.1 parts.0

-- what a number or bytes give
found_ok : {A B : Type 0} (P : B → Type 0) (kind : A → B) (found : Option A) (value : B) → ((x : A) → found ≡ Some x → P (kind x)) → or_bad_number (option_map kind found) ≡ Ok value → P value
found_ok P kind None value holds is = cc is
found_ok P kind (Some x) value holds is =
    let same : kind x ≡ value = cc is in
    subst P same (holds x refl)

-- what is found alone
only_ok : {A : Type 0} (found : Option A) (value : A) → or_bad_number found ≡ Ok value → found ≡ Some value
only_ok None value is = cc is
only_ok (Some x) value is =
    let same : x ≡ value = cc is in
    ap Some same

arg_of_parts-ok : (jobs : List DepJob) (word : List ℕ) (name : Option (List ℕ)) (arg : Arg) → arg_of_parts jobs word name ≡ Ok arg → IsArg jobs arg
arg_of_parts-ok jobs word None arg is = found_ok (IsArg jobs) Number (number_of word) arg (number_of-below word) is
arg_of_parts-ok jobs word (Some name) arg is =
    behind_ok (job_named AsNumber jobs (number_of name)) _ arg is (λ named named_is same_is.
    let same : Of named ≡ arg = cc same_is in
    subst (IsArg jobs) same (job_named-ok AsNumber jobs (number_of name) named named_is))

arg_of-ok : (jobs : List DepJob) (word : List ℕ) (arg : Arg) → arg_of jobs word ≡ Ok arg → IsArg jobs arg
arg_of-ok jobs word = arg_of_parts-ok jobs word (behind_mark word)

piece_of_parts-ok : (jobs : List DepJob) (word : List ℕ) (name : Option (List ℕ)) (piece : Piece) → piece_of_parts jobs word name ≡ Ok piece → IsPiece jobs piece
piece_of_parts-ok jobs word None piece is = found_ok (IsPiece jobs) Plain (hex_of word) piece (AreBytes-hex_of word) is
piece_of_parts-ok jobs word (Some name) piece is =
    behind_ok (job_named AsBytes jobs (number_of name)) _ piece is (λ named named_is same_is.
    let same : OfBytes named ≡ piece = cc same_is in
    subst (IsPiece jobs) same (job_named-ok AsBytes jobs (number_of name) named named_is))

piece_of-ok : (jobs : List DepJob) (word : List ℕ) (piece : Piece) → piece_of jobs word ≡ Ok piece → IsPiece jobs piece
piece_of-ok jobs word = piece_of_parts-ok jobs word (behind_mark word)

-- ---- jobs

all_of-ok : {X Y : Type 0} (P : Y → Type 0) (f : X → Result Y TextCause) → ((x : X) (y : Y) → f x ≡ Ok y → P y) → (xs : List X) (ys : List Y) → all_of f xs ≡ Ok ys → All P ys
all_of-ok P f holds [] ys is =
    let same : [] ≡ ys = cc is in
    subst (All P) same (All-nil P)
all_of-ok P f holds (x ∷ xs) ys is =
    behind_ok (both (f x) (all_of f xs)) _ ys is (λ pair pair_is same_is.
    both-ok (f x) (all_of f xs) pair pair_is (λ first rest.
    let same : pair.0 ∷ pair.1 ≡ ys = cc same_is in
    subst (All P) same (All-cons P pair.0 pair.1 (holds x pair.0 first) (all_of-ok P f holds xs pair.1 rest))))

sum_of-ok : (jobs : List DepJob) (words : List (List ℕ)) (work : DepWork) → sum_of jobs words ≡ Ok work → IsDepWork jobs work
sum_of-ok jobs words work is =
    behind_ok (all_of (arg_of jobs) words) _ work is (λ args args_are same_is.
    let same : Sum args ≡ work = cc same_is in
    subst (IsDepWork jobs) same (all_of-ok (IsArg jobs) (arg_of jobs) (arg_of-ok jobs) words args args_are))

digest_of-ok : (jobs : List DepJob) (words : List (List ℕ)) (work : DepWork) → digest_of jobs words ≡ Ok work → IsDepWork jobs work
digest_of-ok jobs [] work is = cc is
digest_of-ok jobs (bytes ∷ []) work is =
    behind_ok (piece_of jobs bytes) _ work is (λ piece piece_is same_is.
    let same : Digest piece ≡ work = cc same_is in
    subst (IsDepWork jobs) same (piece_of-ok jobs bytes piece piece_is))
digest_of-ok jobs (bytes ∷ next ∷ others) work is = cc is

count_of-ok : (jobs : List DepJob) (words : List (List ℕ)) (work : DepWork) → count_of jobs words ≡ Ok work → IsDepWork jobs work
count_of-ok jobs [] work is = cc is
count_of-ok jobs (byte ∷ []) work is = cc is
count_of-ok jobs (byte ∷ bytes ∷ []) work is =
    behind_ok (both (or_bad_number (byte_of byte)) (piece_of jobs bytes)) _ work is (λ pair pair_is same_is.
    both-ok (or_bad_number (byte_of byte)) (piece_of jobs bytes) pair pair_is (λ byte_is piece_is.
    let same : Count pair.0 pair.1 ≡ work = cc same_is in
    subst (IsDepWork jobs) same (byte_of-below byte pair.0 (only_ok (byte_of byte) pair.0 byte_is), piece_of-ok jobs bytes pair.1 piece_is)))
count_of-ok jobs (byte ∷ bytes ∷ next ∷ others) work is = cc is

mix_of-ok : (jobs : List DepJob) (words : List (List ℕ)) (work : DepWork) → mix_of jobs words ≡ Ok work → IsDepWork jobs work
mix_of-ok jobs [] work is = cc is
mix_of-ok jobs (start ∷ []) work is = cc is
mix_of-ok jobs (start ∷ turns ∷ []) work is =
    behind_ok (both (arg_of jobs start) (or_bad_number (number_within 0 most_turns turns))) _ work is (λ pair pair_is same_is.
    both-ok (arg_of jobs start) (or_bad_number (number_within 0 most_turns turns)) pair pair_is (λ start_is turns_are.
    let same : Mix pair.0 pair.1 ≡ work = cc same_is in
    subst (IsDepWork jobs) same (arg_of-ok jobs start pair.0 start_is, number_within-some most_turns turns pair.1 (only_ok (number_within 0 most_turns turns) pair.1 turns_are))))
mix_of-ok jobs (start ∷ turns ∷ next ∷ others) work is = cc is

work_of_kind-ok : (jobs : List DepJob) (kind : List ℕ) (words : List (List ℕ)) (work : DepWork) → All IsWord words → work_of_kind jobs kind words ≡ Ok work → IsDepWork jobs work
work_of_kind-ok jobs kind words work are is =
    if_ok (bytes_eq kind (codes "sum")) _ _ work is (λ _ sum. sum_of-ok jobs words work sum) (λ _ is1.
    if_ok (bytes_eq kind (codes "digest")) _ _ work is1 (λ _ digest. digest_of-ok jobs words work digest) (λ _ is2.
    if_ok (bytes_eq kind (codes "count")) _ _ work is2 (λ _ count. count_of-ok jobs words work count) (λ _ is3.
    if_ok (bytes_eq kind (codes "mix")) _ _ work is3 (λ _ mix. mix_of-ok jobs words work mix) (λ _ is4.
    if_ok (bytes_eq kind (codes "words")) _ _ work is4 (λ _ any. (let same : Words words ≡ work = cc any in subst (IsDepWork jobs) same are)) (λ _ none. cc none)))))

work_of-ok : (jobs : List DepJob) (words : List (List ℕ)) (work : DepWork) → All IsWord words → work_of jobs words ≡ Ok work → IsDepWork jobs work
work_of-ok jobs [] work are is = cc is
work_of-ok jobs (kind ∷ arguments) work are is = work_of_kind-ok jobs kind arguments work (All-tail IsWord kind arguments are) is

dep_job_of-ok : (jobs : List DepJob) (words : List (List ℕ)) (job : DepJob) → All IsWord words → dep_job_of jobs words ≡ Ok job → IsDepJob jobs job
dep_job_of-ok jobs [] job are is = cc is
dep_job_of-ok jobs (lane ∷ words) job are is =
    behind_ok (both (lane_of lane) (work_of jobs words)) _ job is (λ pair pair_is same_is.
    both-ok (lane_of lane) (work_of jobs words) pair pair_is (λ lane_is work_is.
    let found : DepJob = record { lane = pair.0; work = pair.1 } in
    let same : found ≡ job = cc same_is in
    let ranges : IsDepJob jobs found = record {
      lane = lane_of_number-ok (number_of lane) pair.0 lane_is;
      work = work_of-ok jobs words pair.1 (All-tail IsWord lane words are) work_is;
    } in
    subst (IsDepJob jobs) same ranges))

-- ---- lines

-- a job among others and one more
each-push : (jobs : List DepJob) (job : DepJob) → ((k : ℕ) (found : DepJob) → slice_get jobs k ≡ Some found → IsDepJob (take k jobs) found) → IsDepJob jobs job
    → (k : ℕ) (found : DepJob) → slice_get (jobs ++ job ∷ []) k ≡ Some found → IsDepJob (take k (jobs ++ job ∷ [])) found
each-push jobs job each last k found is =
    let more = jobs ++ job ∷ [] in
    let within = slice_get_within more k found is in
    let stands = get_or_from_slice_get more k found job is in
    let longer = length-append jobs (job ∷ []) in
    ⊎_elim
    (λ front.
    let same : get_or jobs k job ≡ found = sym (get_or_append_left jobs (job ∷ []) job k front) ∙ stands in
    let here : slice_get jobs k ≡ Some found = slice_get-get_or jobs k job front ∙ ap Some same in
    let before : take k more ≡ take k jobs = take-append-le k jobs (job ∷ []) (omega arith) in
    subst (λ (js : List DepJob). IsDepJob js found) (sym before) (each k found here))
    (λ end.
    let place : length jobs ≡ k = omega arith in
    let same : job ≡ found = sym (get_or_push jobs job job k place) ∙ stands in
    let before : take k more ≡ jobs = take-append-le k jobs (job ∷ []) (omega arith) ∙ take_all k jobs (omega arith) in
    subst (λ (js : List DepJob). IsDepJob js found) (sym before) (subst (IsDepJob jobs) same last))
    (cases_lt k (length jobs))

add_job-keeps : (jobs next : List DepJob) (job : DepJob) → IsDepFile jobs → IsDepJob jobs job → add_job jobs job ≡ Ok next → IsDepFile next
add_job-keeps jobs next job kept ranges is =
    if_ok (nat_le most_dep_jobs (length jobs)) _ _ next is (λ _ none. cc none) (λ room deep_is.
    if_ok (nat_le most_levels (level_behind (levels_of jobs) job.work)) _ _ next deep_is (λ _ none. cc none) (λ low same_is.
    let few = leb-false most_dep_jobs (length jobs) room in
    let level_low = leb-false most_levels (level_behind (levels_of jobs) job.work) low in
    let longer = length-append jobs (job ∷ []) in
    let same : jobs ++ job ∷ [] ≡ next = cc same_is in
    let levels_low = All-push (λ (level : ℕ). level < most_levels) (levels_of jobs) (level_behind (levels_of jobs) job.work) kept.low (omega arith) in
    let file : IsDepFile (jobs ++ job ∷ []) = record {
      few = omega arith;
      each = each-push jobs job kept.each ranges;
      low = subst (All (λ (level : ℕ). level < most_levels)) (sym (levels_of-push jobs job)) levels_low;
    } in
    subst IsDepFile same file))

meaning-keeps : (number : ℕ) (jobs next : List DepJob) (words : List (List ℕ)) → All IsWord words → IsDepFile jobs → meaning number jobs words ≡ Ok next → IsDepFile next
meaning-keeps number jobs next [] are kept is = cc is
meaning-keeps number jobs next (word ∷ words) are kept is =
    if_ok (bytes_eq word (codes "job")) _ _ next is
    (λ _ job_is. behind_ok (dep_job_of jobs words) (add_job jobs) next job_is (λ job found_is added.
    add_job-keeps jobs next job kept (dep_job_of-ok jobs words job (All-tail IsWord word words are) found_is) added))
    (λ _ none. cc none)

no_job : (k : ℕ) (job : DepJob) → slice_get [] k ≡ Some job → IsDepJob (take k []) job
no_job k job is = cc is

-- the jobs of a text are those of a file
pub IsDepFile-deps_of : (text : List ℕ) (jobs : List DepJob) → deps_of text ≡ Ok jobs → IsDepFile jobs
IsDepFile-deps_of text jobs is =
    text_state-keeps IsDepFile (codes "bqdeps") (codes "1") meaning meaning-keeps [] jobs text
    (record { few = omega arith; each = no_job; low = All-nil (λ (level : ℕ). level < most_levels) }) is
