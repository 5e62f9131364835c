use Rattle.std.proofs.Common.{rules, ◌≡◌, length, vec_len, arith}
use Rattle.step_core.proofs.Courses.{links, hears, reads, walks, marks, loses, finds}
use Rattle.step_core.proofs.call.Call.go.Goals as goal

pub overflow_add-number : goal.overflow_add-number
overflow_add-number c = let f = links c.args.shape.now c.args.caller c.args.self.now c.requires c.args.found c.in-Chains.notice c.in-Chains.number c.in-Chains.ensures in omega arith

pub hear-requires-clause-inside : goal.hear-requires-clause-inside
hear-requires-clause-inside c = (hears c.args.shape.now c.args.caller c.args.self.now c.requires c.args.found c.in-Hears.notice c.in-Hears.other c.in-Hears.named c.in-Hears.ensures).0

pub hear-requires-clause-room : goal.hear-requires-clause-room
hear-requires-clause-room c = (hears c.args.shape.now c.args.caller c.args.self.now c.requires c.args.found c.in-Hears.notice c.in-Hears.other c.in-Hears.named c.in-Hears.ensures).1

pub hear-requires-clause-few : goal.hear-requires-clause-few
hear-requires-clause-few c = (hears c.args.shape.now c.args.caller c.args.self.now c.requires c.args.found c.in-Hears.notice c.in-Hears.other c.in-Hears.named c.in-Hears.ensures).2

pub read_more-requires-clause-room : goal.read_more-requires-clause-room
read_more-requires-clause-room c = let k = c.args.self.now in let f = reads c.args.shape.now c.args.caller k c.requires c.args.found c.in-ReadsMore.reading c.in-ReadsMore.row c.in-ReadsMore.left c.in-ReadsMore.value c.in-ReadsMore.ensures in
    let ready = c.requires.may_end.ready in let room = ready.values in let most = ready.fits in let n : length k.values.items ≡ vec_len k.values = search rules in let less = f.0 in omega arith

pub read_more-requires-clause-rows : goal.read_more-requires-clause-rows
read_more-requires-clause-rows c = let k = c.args.self.now in let f = reads c.args.shape.now c.args.caller k c.requires c.args.found c.in-ReadsMore.reading c.in-ReadsMore.row c.in-ReadsMore.left c.in-ReadsMore.value c.in-ReadsMore.ensures in
    let ready = c.requires.may_end.ready in let room = ready.walked in let most = ready.fits in let n : length k.walked.items ≡ vec_len k.walked = search rules in let less = f.1 in omega arith

pub walk_on-requires-clause-room : goal.walk_on-requires-clause-room
walk_on-requires-clause-room c = let k = c.args.self.now in let f = walks c.args.shape.now c.args.caller k c.requires c.args.found c.in-WalksMore.point c.in-WalksMore.row c.in-WalksMore.value c.in-WalksMore.ensures in
    let ready = c.requires.may_end.ready in let room = ready.values in let most = ready.fits in let n : length k.values.items ≡ vec_len k.values = search rules in let less = f.0 in omega arith

pub walk_on-requires-clause-rows : goal.walk_on-requires-clause-rows
walk_on-requires-clause-rows c = let k = c.args.self.now in let f = walks c.args.shape.now c.args.caller k c.requires c.args.found c.in-WalksMore.point c.in-WalksMore.row c.in-WalksMore.value c.in-WalksMore.ensures in
    let ready = c.requires.may_end.ready in let room = ready.walked in let most = ready.fits in let n : length k.walked.items ≡ vec_len k.walked = search rules in let less = f.1 in omega arith

pub mark-requires-clause-counts : goal.mark-requires-clause-counts
mark-requires-clause-counts c = (marks c.args.shape.now c.args.caller c.args.self.now c.requires c.args.found c.in-Marks.closing c.in-Marks.place c.in-Marks.both c.in-Marks.stopped c.in-Marks.ensures).0

pub mark-requires-clause-room : goal.mark-requires-clause-room
mark-requires-clause-room c = (marks c.args.shape.now c.args.caller c.args.self.now c.requires c.args.found c.in-Marks.closing c.in-Marks.place c.in-Marks.both c.in-Marks.stopped c.in-Marks.ensures).1

pub retire-requires-clause-room : goal.retire-requires-clause-room
retire-requires-clause-room c = loses c.args.shape.now c.args.caller c.args.self.now c.requires c.args.found c.in-Retires.closing c.in-Retires.row c.in-Retires.ensures

pub find-requires-clause-room : goal.find-requires-clause-room
find-requires-clause-room c = (finds c.args.shape.now c.args.caller c.args.self.now c.requires c.args.found c.in-Finds.closing c.in-Finds.other c.in-Finds.named c.in-Finds.ensures).1
