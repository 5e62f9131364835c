-- From what each part of a call says to the cause of its status.
use Rattle.std.proofs.Common.{◌≡◌, false, ℕ, Option, None, Some, IfSome, refl, sym, ◌∙◌, arith, inl, inr}
use Rattle.std.proofs.lemmas.Bool.{true≢false}
use Rattle.bqd.specs.Command.{reads}
use Rattle.byte_streams.specs.Streams.{IsUntouched}
use Rattle.bqd.specs.Causes.{Call, ReadsInput, IsTold, IsDone, IsIllegal, IsUsage, IsRefused, IsReadFailure, IsWriteFailure, IsOutOfMemory, DueComes, IsExplained, due_in}

-- ---- what is said of something that is known

if_some-map : {A : Type 0} (P Q : A → Type 0) (o : Option A) → ((x : A) → P x → Q x) → IfSome o P → IfSome o Q
if_some-map P Q None f p = tt
if_some-map P Q (Some x) f p = f x p

if_some-all : {A : Type 0} (Q : A → Type 0) (o : Option A) → ((x : A) → Q x) → IfSome o Q
if_some-all Q None f = tt
if_some-all Q (Some x) f = f x

-- ---- each status with its cause is explained

told_comes : (s : ℕ) (call : Call) → IsTold s call → DueComes s call
told_comes s call told = if_some-map _ _ (due_in call) (λ due is quiet fine. inl (sym is.0)) told.due

pub untouched : (call : Call) → ReadsInput call → reads call.command ≡ false → IsUntouched call.source
untouched call does not = absurd (true≢false (sym does ∙ not))

pub explained-done : (call : Call) → IsDone call → (reads call.command ≡ false → IsUntouched call.source) → IsExplained 0 call
explained-done call is stays = record {
  known = inl refl;
  done = λ _. is;
  illegal = λ e. absurd (omega arith);
  usage = λ e. absurd (omega arith);
  refused = λ e. absurd (omega arith);
  read_failed = λ e. absurd (omega arith);
  write_failed = λ e. absurd (omega arith);
  out_of_memory = λ e. absurd (omega arith);
  due_comes = told_comes 0 call is.told;
  source_stays = stays;
}

pub explained-illegal : (call : Call) → IsIllegal call → (reads call.command ≡ false → IsUntouched call.source) → IsExplained 1 call
explained-illegal call is stays = record {
  known = inr (inl refl);
  done = λ e. absurd (omega arith);
  illegal = λ _. is;
  usage = λ e. absurd (omega arith);
  refused = λ e. absurd (omega arith);
  read_failed = λ e. absurd (omega arith);
  write_failed = λ e. absurd (omega arith);
  out_of_memory = λ e. absurd (omega arith);
  due_comes = told_comes 1 call is.told;
  source_stays = stays;
}

pub explained-usage : (call : Call) → IsUsage call → IsUntouched call.source → IsExplained 2 call
explained-usage call is stays = record {
  known = inr (inr (inl refl));
  done = λ e. absurd (omega arith);
  illegal = λ e. absurd (omega arith);
  usage = λ _. is;
  refused = λ e. absurd (omega arith);
  read_failed = λ e. absurd (omega arith);
  write_failed = λ e. absurd (omega arith);
  out_of_memory = λ e. absurd (omega arith);
  due_comes = told_comes 2 call is.told;
  source_stays = λ _. stays;
}

pub explained-refused : (call : Call) → IsRefused call → IsExplained 3 call
explained-refused call is = record {
  known = inr (inr (inr (inl refl)));
  done = λ e. absurd (omega arith);
  illegal = λ e. absurd (omega arith);
  usage = λ e. absurd (omega arith);
  refused = λ _. is;
  read_failed = λ e. absurd (omega arith);
  write_failed = λ e. absurd (omega arith);
  out_of_memory = λ e. absurd (omega arith);
  due_comes = told_comes 3 call is.told;
  source_stays = untouched call is.command;
}

pub explained-read : (call : Call) → IsReadFailure call → IsExplained 4 call
explained-read call is = record {
  known = inr (inr (inr (inr (inl refl))));
  done = λ e. absurd (omega arith);
  illegal = λ e. absurd (omega arith);
  usage = λ e. absurd (omega arith);
  refused = λ e. absurd (omega arith);
  read_failed = λ _. is;
  write_failed = λ e. absurd (omega arith);
  out_of_memory = λ e. absurd (omega arith);
  due_comes = if_some-all _ (due_in call) (λ due quiet fine. absurd (quiet is.command is.faulty));
  source_stays = untouched call is.command;
}

pub explained-write : (call : Call) → IsWriteFailure call → (reads call.command ≡ false → IsUntouched call.source) → IsExplained 5 call
explained-write call is stays = record {
  known = inr (inr (inr (inr (inr (inl refl)))));
  done = λ e. absurd (omega arith);
  illegal = λ e. absurd (omega arith);
  usage = λ e. absurd (omega arith);
  refused = λ e. absurd (omega arith);
  read_failed = λ e. absurd (omega arith);
  write_failed = λ _. is;
  out_of_memory = λ e. absurd (omega arith);
  due_comes = if_some-map _ _ (due_in call) (λ due fails quiet fine. absurd (fine fails.faulty)) is.due;
  source_stays = stays;
}

pub explained-memory : (call : Call) → IsOutOfMemory call → (reads call.command ≡ false → IsUntouched call.source) → IsExplained 6 call
explained-memory call is stays = record {
  known = inr (inr (inr (inr (inr (inr refl)))));
  done = λ e. absurd (omega arith);
  illegal = λ e. absurd (omega arith);
  usage = λ e. absurd (omega arith);
  refused = λ e. absurd (omega arith);
  read_failed = λ e. absurd (omega arith);
  write_failed = λ e. absurd (omega arith);
  out_of_memory = λ _. is;
  due_comes = if_some-all _ (due_in call) (λ due quiet fine. inr (refl, is.command));
  source_stays = stays;
}
