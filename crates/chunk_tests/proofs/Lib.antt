mod LargeScenes
