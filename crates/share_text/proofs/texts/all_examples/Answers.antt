use Rattle.share_text.proofs.texts.all_examples.Goals as goal

pub returns : goal.returns
returns c = record {
  writes_writes = c.in_ok-writes_writes.ensures;
  writes_reads = c.in_ok-writes_reads.ensures;
  reads_writes = c.in_ok-reads_writes.ensures;
  reads_reads = c.in_ok-reads_reads.ensures;
}
