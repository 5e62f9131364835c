use Rattle.std.proofs.Common.{refl}
use Rattle.help_ways.proofs.Helps.{reads_dummy, reads_first, reads_last_row, reads_counts}
use Rattle.help_ways.proofs.Single.{stands_own, acts_own, then_on}
use Rattle.help_ways.proofs.help_way.read_notice.Goals as goal

pub load-requires-clause-at : goal.load-requires-clause-at
load-requires-clause-at c = stands_own c.requires

pub load-requires-clause-load : goal.load-requires-clause-load
load-requires-clause-load c = acts_own c.requires _ refl

pub load-requires-2-clause-at : goal.load-requires-2-clause-at
load-requires-2-clause-at c = stands_own (reads_dummy c.requires c.load.ensures c.dummy_in-help.result c.dummy_in-help.ensures).0

pub load-requires-2-clause-load : goal.load-requires-2-clause-load
load-requires-2-clause-load c = acts_own (reads_dummy c.requires c.load.ensures c.dummy_in-help.result c.dummy_in-help.ensures).0 _ refl

pub load-requires-3-clause-at : goal.load-requires-3-clause-at
load-requires-3-clause-at c = let one = reads_dummy c.requires c.load.ensures c.dummy_in-help.result c.dummy_in-help.ensures in
    stands_own (reads_first one.0 c.load-2.ensures c.chain_end_in-help.result c.chain_end_in-help.ensures).0

pub load-requires-3-clause-load : goal.load-requires-3-clause-load
load-requires-3-clause-load c = let one = reads_dummy c.requires c.load.ensures c.dummy_in-help.result c.dummy_in-help.ensures in
    acts_own (reads_first one.0 c.load-2.ensures c.chain_end_in-help.result c.chain_end_in-help.ensures).0 _ refl

pub load-requires-4-clause-at : goal.load-requires-4-clause-at
load-requires-4-clause-at c = let one = reads_dummy c.requires c.load.ensures c.dummy_in-help.result c.dummy_in-help.ensures in let two = reads_first one.0 c.load-2.ensures c.chain_end_in-help.result c.chain_end_in-help.ensures in
    stands_own (reads_last_row two.0 c.load-3.ensures c.chain_end_in-help-2.result c.chain_end_in-help-2.ensures).0

pub load-requires-4-clause-load : goal.load-requires-4-clause-load
load-requires-4-clause-load c = let one = reads_dummy c.requires c.load.ensures c.dummy_in-help.result c.dummy_in-help.ensures in let two = reads_first one.0 c.load-2.ensures c.chain_end_in-help.result c.chain_end_in-help.ensures in
    acts_own (reads_last_row two.0 c.load-3.ensures c.chain_end_in-help-2.result c.chain_end_in-help-2.ensures).0 _ refl

pub returns : goal.returns
returns c = let one = reads_dummy c.requires c.load.ensures c.dummy_in-help.result c.dummy_in-help.ensures in let two = reads_first one.0 c.load-2.ensures c.chain_end_in-help.result c.chain_end_in-help.ensures in
    let three = reads_last_row two.0 c.load-3.ensures c.chain_end_in-help-2.result c.chain_end_in-help-2.ensures in
    then_on one (then_on two (then_on three (reads_counts three.0 c.load-4.ensures c.counts_in-help.result c.counts_in-help.ensures)))
