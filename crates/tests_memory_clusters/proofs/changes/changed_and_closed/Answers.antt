use Rattle.tests_memory_clusters.proofs.changes.changed_and_closed.Goals as goal

pub closed-world-requires-clause-monitor : goal.closed-world-requires-clause-monitor
closed-world-requires-clause-monitor g c = (c.changed-change.ensures.monitor, c.changed-change.ensures.follows c.args.cluster.start c.requires.monitor.1)

pub finished_and_closed-world-requires-clause-monitor : goal.finished_and_closed-world-requires-clause-monitor
finished_and_closed-world-requires-clause-monitor g c = (c.changed-change.ensures.monitor, c.changed-change.ensures.follows c.args.cluster.start c.requires.monitor.1)
